use Rattle.std.proofs.Common.{length}
use Rattle.link_sections.specs.Views.{binding_in, files_in, laid_in, leaders_in}
use Rattle.reloc_apply.specs.Relocated.{touching_defects}
use Rattle.reloc_apply.proofs.ClearBlocks.{no_first, touching_clear}
use Rattle.reloc_apply.proofs.relocated.apply.Goals as goal

pub returns-in-Some-clause-sure : goal.returns-in-Some-clause-sure
returns-in-Some-clause-sure c = λ none.
    let v = c.args.view.now in
    let size = length c.args.block.now in
    absurd (no_first (touching_defects (files_in v) (binding_in v) (leaders_in v) (laid_in v) c.args.from size) c.in-Some.defect c.in-Some.ensures
    (touching_clear (files_in v) (binding_in v) (leaders_in v) (laid_in v) v.sound c.args.from size none))
