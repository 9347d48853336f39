use Rattle.std.proofs.Common.{refl}
use Rattle.std.proofs.lemmas.Result.{err_from_is_err_and}
use Rattle.ar_read.proofs.OneHeader.{head_fails, name_fails, entry_reads, lies_in}
use Rattle.ar_read.proofs.entries.read_entry.Goals as goal

pub returns-in_err-head-clause-value : goal.returns-in_err-head-clause-value
returns-in_err-head-clause-value c =
    let p = err_from_is_err_and c.from_residual.result c.from_residual.ensures.1 in
    rw (p.1, p.2) (head_fails c.args.bytes.now c.args.table c.args.at _ c.in_err-head.ensures.exact)

pub returns-in_err-name-clause-value : goal.returns-in_err-name-clause-value
returns-in_err-name-clause-value c =
    let p = err_from_is_err_and c.from_residual-in_err-name.result c.from_residual-in_err-name.ensures.1 in
    let bad = rw c.kind_at-kind.ensures.value at c.in_err-name.ensures.value in
    rw (p.1, p.2) (name_fails c.args.bytes.now c.args.table c.args.at c.in_ok-head.head _ c.in_ok-head.ensures.exact bad)

pub returns-clause-value : goal.returns-clause-value
returns-clause-value c =
    let sound = rw c.kind_at-kind.ensures.value at c.in_ok-name.ensures.value in
    let later = rw c.kind_at-kind.ensures.value at c.later_table.ensures in
    entry_reads c.args.bytes.now c.args.table c.args.at c.in_ok-head.head c.in_ok-name.name _ c.in_ok-head.ensures.exact sound
    c.member_named.ensures later refl

pub returns-clause-lies : goal.returns-clause-lies
returns-clause-lies c =
    rw c.member_named.ensures (lies_in c.args.bytes.now c.in_ok-head.head.body c.in_ok-name.name c.in_ok-head.ensures.inside c.in_ok-name.ensures.inside)
