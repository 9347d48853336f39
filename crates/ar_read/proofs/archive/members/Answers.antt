use Rattle.std.proofs.Common.{List, subst}
use Rattle.std.specs.Prelude.{Result}
use Rattle.std.proofs.lemmas.Result.{IfOk-weaker}
use Rattle.lk_base.specs.declared.defects.Flaw.{Flaw}
use Rattle.lk_tables.specs.Checks.{Gives}
use Rattle.lk_tables.proofs.Passing.{found_from, refused_from}
use Rattle.ar_read.specs.declared.archive.Member.{Member}
use Rattle.ar_read.specs.Archives.{archive_of, archive_checks, members_of, count}
use Rattle.ar_read.proofs.Walk.{archive_from, read_as, flaw_from, refused_as}
use Rattle.ar_read.proofs.archive.members.Goals as goal

pub returns-clause-found : goal.returns-clause-found
unfolding archive_of
returns-clause-found c =
    let b = c.args.bytes.now in
    IfOk-weaker c.read_archive.result _ _ (λ v h. archive_from b v.items h.0 h.1)
    (found_from (λ v. v.items) (archive_checks b (count b)) (members_of b (count b)) c.read_archive.result c.read_archive.ensures.exact)

pub returns-clause-only : goal.returns-clause-only
returns-clause-only c = λ list is.
    subst (λ (r : Result (List Member) Flaw). Gives (λ v. v.items) c.read_archive.result r) (read_as c.args.bytes.now list is) c.read_archive.ensures.exact

pub returns-clause-refused : goal.returns-clause-refused
unfolding archive_of
returns-clause-refused c = λ flaw is.
    let b = c.args.bytes.now in
    flaw_from b flaw
    (refused_from (λ v. v.items) (archive_checks b (count b)) (members_of b (count b)) c.read_archive.result flaw c.read_archive.ensures.exact is)

pub returns-clause-broken : goal.returns-clause-broken
returns-clause-broken c = λ flaw is.
    subst (λ (r : Result (List Member) Flaw). Gives (λ v. v.items) c.read_archive.result r) (refused_as c.args.bytes.now flaw is) c.read_archive.ensures.exact
