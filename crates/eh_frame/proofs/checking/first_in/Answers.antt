use Rattle.lk_base.proofs.Loops.{found_at}
use Rattle.lk_tables.specs.Frames.{lists_of}
use Rattle.link_sections.specs.Views.{binding_in, files_in, laid_in, leaders_in}
use Rattle.eh_frame.specs.Bytes.{placed_defects}
use Rattle.eh_frame.proofs.checking.first_in.Goals as goal

pub returns-in-Some : goal.returns-in-Some
returns-in-Some c =
    found_at (placed_defects (files_in c.args.view.now) (binding_in c.args.view.now) (leaders_in c.args.view.now) (laid_in c.args.view.now) (lists_of c.args.frames.now) c.args.start)
    c.args.placed.now c.loop-record.record-index _ _ c.in-Some.defect c.loop-record-test.true c.loop-record.invariant c.in-Some.ensures
