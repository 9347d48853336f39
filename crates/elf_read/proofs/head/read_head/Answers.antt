use Rattle.std.proofs.Common.{◌≡◌, sym, ap, ◌∙◌, subst}
use Rattle.std.specs.Prelude.{Ok, Err, Result}
use Rattle.std.proofs.lemmas.Result.{IfOk-weaker}
use Rattle.lk_base.specs.declared.defects.Flaw.{Flaw}
use Rattle.lk_tables.specs.Checks.{Gives}
use Rattle.lk_tables.specs.Heads.{HeadView, head_view, head_of, head_checks, fields_of}
use Rattle.lk_tables.proofs.Passing.{found_from, refused_from, ok_from_none, err_from_first}
use Rattle.elf_read.proofs.head.read_head.Goals as goal

pub returns-clause-found : goal.returns-clause-found
unfolding head_of
returns-clause-found c =
    let b = c.args.bytes.now in
    IfOk-weaker c.read.result _ _ (λ x h. record { fields = h.0; sound = h.1 })
    (found_from head_view (head_checks b) (fields_of b) c.read.result c.read.ensures)

pub returns-clause-only : goal.returns-clause-only
unfolding head_of
returns-clause-only c = λ head is.
    let b = c.args.bytes.now in
    let whole : head_of b ≡ Ok head = ok_from_none (head_checks b) (fields_of b) is.sound ∙ ap Ok (sym is.fields) in
    subst (λ (r : Result HeadView Flaw). Gives head_view c.read.result r) whole c.read.ensures

pub returns-clause-refused : goal.returns-clause-refused
unfolding head_of
returns-clause-refused c = λ flaw is.
    refused_from head_view (head_checks c.args.bytes.now) (fields_of c.args.bytes.now) c.read.result flaw c.read.ensures is

pub returns-clause-broken : goal.returns-clause-broken
unfolding head_of
returns-clause-broken c = λ flaw is.
    let b = c.args.bytes.now in
    let whole : head_of b ≡ Err flaw = err_from_first (head_checks b) (fields_of b) flaw is in
    subst (λ (r : Result HeadView Flaw). Gives head_view c.read.result r) whole c.read.ensures
