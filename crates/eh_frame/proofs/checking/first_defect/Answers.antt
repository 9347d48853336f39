use Rattle.lk_tables.specs.Frames.{lists_of}
use Rattle.link_sections.specs.Views.{binding_in, files_in, laid_in, leaders_in}
use Rattle.eh_frame.specs.Bytes.{placed_defects}
use Rattle.eh_frame.proofs.PlacedOrder.{none_in_order}
use Rattle.eh_frame.proofs.checking.first_defect.Goals as goal

pub returns-then-fit : goal.returns-then-fit
returns-then-fit g c =
    none_in_order (placed_defects (files_in c.args.view.now) (binding_in c.args.view.now) (leaders_in c.args.view.now) (laid_in c.args.view.now) (lists_of c.args.frames.now) c.args.start) c.args.placed.now
    (c.in_ok-fit.ensures c.if-fit.true)
