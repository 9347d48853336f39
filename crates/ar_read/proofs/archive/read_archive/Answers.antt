use Rattle.std.proofs.Common.{List, sym, subst}
use Rattle.std.specs.Prelude.{Result}
use Rattle.std.proofs.lemmas.Result.{err_from_is_err_and}
use Rattle.lk_base.specs.declared.defects.Flaw.{Flaw}
use Rattle.lk_tables.specs.Checks.{Gives, from_on}
use Rattle.lk_tables.proofs.Passing.{first_fails, second_decides}
use Rattle.ar_read.specs.declared.archive.Member.{Member}
use Rattle.ar_read.specs.Archives.{archive_of, archive_checks, magic_checks, header_checks, members_of, count}
use Rattle.ar_read.proofs.archive.read_archive.Goals as goal

pub returns-in_err-check_magic-clause-exact : goal.returns-in_err-check_magic-clause-exact
unfolding archive_of archive_checks
returns-in_err-check_magic-clause-exact c =
    let b = c.args.bytes.now in
    let p = err_from_is_err_and c.from_residual.result c.from_residual.ensures.1 in
    rw (p.1, p.2) (first_fails (magic_checks b) (from_on (header_checks b) 0 (count b)) (members_of b (count b)) _ (sym c.in_err-check_magic.ensures))

pub returns-clause-exact : goal.returns-clause-exact
unfolding archive_of archive_checks
returns-clause-exact c =
    let b = c.args.bytes.now in
    subst (λ (r : Result (List Member) Flaw). Gives (λ v. v.items) c.read_members.result r)
    (sym (second_decides (magic_checks b) (from_on (header_checks b) 0 (count b)) (members_of b (count b)) (sym c.in_ok-check_magic.ensures)))
    c.read_members.ensures.exact
