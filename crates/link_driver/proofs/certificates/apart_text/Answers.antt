use Rattle.std.proofs.Common.{◌∙◌, ℕ, arith, sym}
use Rattle.std.specs.Global.{Vec}
use Rattle.std.proofs.lemmas.List.{length-map}
use Rattle.link_command.specs.Command.{lists_of}
use Rattle.lk_tables.specs.BindingView.{binding_view}
use Rattle.lk_tables.specs.TablesView.{files_of}
use Rattle.link_passes.specs.Contents.{names_of}
use Rattle.link_driver.proofs.Certifying.{both_asked, not_two}
use Rattle.link_passes.proofs.Handing.{on_each}
use Rattle.link_driver.proofs.certificates.apart_text.Goals as goal

pub returns-then-asked-ne2 : goal.returns-then-asked-ne2
returns-then-asked-ne2 g c =
    let asked = c.args.asked.now in
    c.new.ensures.items ∙ sym (not_two (names_of c.args.names.now) (files_of c.args.tables.now) (binding_view c.args.binding.now) c.args.kept.now c.args.barred.now (lists_of asked)
    (λ two. c.if-asked-ne2.true (omega (arith, two, length-map asked (λ (name : Vec ℕ). name.items)))))

pub returns : goal.returns
returns g c =
    let asked = c.args.asked.now in
    on_each c.both_text.result (λ text is.
    is ∙ both_asked (names_of c.args.names.now) (files_of c.args.tables.now) (binding_view c.args.binding.now) c.args.kept.now c.args.barred.now c.name_at.result.now
    c.name_at-2.result.now (lists_of asked) (omega (arith, c.if-asked-ne2.false, length-map asked (λ (name : Vec ℕ). name.items))) c.name_at.ensures c.name_at-2.ensures)
    c.both_text.ensures
