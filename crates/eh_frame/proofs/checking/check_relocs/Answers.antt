use Rattle.link_sections.specs.Views.{binding_in, files_in, laid_in, leaders_in}
use Rattle.lk_base.proofs.Loops.{found_at}
use Rattle.eh_frame.specs.Bytes.{reloc_defects}
use Rattle.eh_frame.proofs.checking.check_relocs.Goals as goal

pub returns-in-Some : goal.returns-in-Some
returns-in-Some c =
    found_at (reloc_defects (files_in c.args.view.now) (binding_in c.args.view.now) (leaders_in c.args.view.now) (laid_in c.args.view.now) c.args.place c.args.from c.args.address)
    c.args.relocs.now c.loop-reloc.reloc-index _ _ c.in-Some.defect c.loop-reloc-test.true c.loop-reloc.invariant c.in-Some.ensures
