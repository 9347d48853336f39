use Rattle.std.proofs.Common.{◌+◌, ◌-◌, ap, refl, sym, ◌∙◌}
use Rattle.lk_base.specs.RelocKinds.{Kind}
use Rattle.link_sections.specs.Views.{binding_in, files_in, laid_in, leaders_in}
use Rattle.eh_frame.proofs.PutSteps.{put_none, put_some}
use Rattle.eh_frame.proofs.relocating.relocate_one.Goals as goal

pub returns-then-not-fills_field : goal.returns-then-not-fills_field
returns-then-not-fills_field c =
    sym (put_none (files_in c.args.view.now) (binding_in c.args.view.now) (leaders_in c.args.view.now) (laid_in c.args.view.now) c.args.file c.args.from c.args.address c.args.reloc.now
    c.args.bytes.now (sym c.fills_field.ensures ∙ c.if-not-fills_field.true))

pub returns : goal.returns
returns c =
    let at = c.args.reloc.now.offset - c.args.from in
    put_some (files_in c.args.view.now) (binding_in c.args.view.now) (leaders_in c.args.view.now) (laid_in c.args.view.now) c.args.file c.args.from c.args.address c.args.reloc.now
    c.args.bytes.now c.fill_place.new.place at (at + c.kind_of-width.result.width) refl (ap (λ (k : Kind). at + k.width) c.kind_of-width.ensures.line) c.fill_place.ensures
