use Rattle.std.proofs.Common.{◌≡◌, sym, ap, ◌∙◌, subst}
use Rattle.std.specs.Prelude.{Ok, Err, Result}
use Rattle.std.proofs.lemmas.Result.{IfOk-weaker}
use Rattle.lk_base.specs.declared.defects.Flaw.{Flaw}
use Rattle.lk_tables.specs.Checks.{Gives}
use Rattle.lk_tables.specs.Objects.{ObjectView, object_view, object_of, object_checks, parts_of}
use Rattle.lk_tables.proofs.Passing.{found_from, refused_from, ok_from_none, err_from_first}
use Rattle.elf_read.proofs.body.read_body.Goals as goal

pub returns-clause-found : goal.returns-clause-found
unfolding object_of
returns-clause-found c =
    let b = c.args.bytes.now in
    IfOk-weaker c.read.result _ _ (λ x h. record { parts = h.0; sound = h.1 })
    (found_from object_view (object_checks b) (parts_of b) c.read.result c.read.ensures)

pub returns-clause-only : goal.returns-clause-only
unfolding object_of
returns-clause-only c = λ object is.
    let b = c.args.bytes.now in
    let whole : object_of b ≡ Ok object = ok_from_none (object_checks b) (parts_of b) is.sound ∙ ap Ok (sym is.parts) in
    subst (λ (r : Result ObjectView Flaw). Gives object_view c.read.result r) whole c.read.ensures

pub returns-clause-refused : goal.returns-clause-refused
unfolding object_of
returns-clause-refused c = λ flaw is.
    refused_from object_view (object_checks c.args.bytes.now) (parts_of c.args.bytes.now) c.read.result flaw c.read.ensures is

pub returns-clause-broken : goal.returns-clause-broken
unfolding object_of
returns-clause-broken c = λ flaw is.
    let b = c.args.bytes.now in
    let whole : object_of b ≡ Err flaw = err_from_first (object_checks b) (parts_of b) flaw is in
    subst (λ (r : Result ObjectView Flaw). Gives object_view c.read.result r) whole c.read.ensures
