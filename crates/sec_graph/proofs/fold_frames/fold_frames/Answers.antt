use Rattle.std.proofs.Common.{◌∙◌, ap, map, arith}
use Rattle.std.proofs.lemmas.List.{take_all}
use Rattle.lk_tables.specs.BindingView.{binding_view}
use Rattle.lk_tables.specs.Frames.{frame_no}
use Rattle.lk_tables.specs.TablesView.{files_of}
use Rattle.link_sections.specs.FoldItems.{frame_view}
use Rattle.sec_graph.specs.Foldable.{frame_of}
use Rattle.sec_graph.proofs.FramePushes.{views_more}
use Rattle.sec_graph.proofs.fold_frames.fold_frames.Goals as goal

pub fold_frame-requires-clause-section : goal.fold_frame-requires-clause-section
fold_frame-requires-clause-section c = c.requires.sections c.loop-i.i (frame_no 0 0) c.loop-i-test.true

pub loop-i-preserved : goal.loop-i-preserved
loop-i-preserved c =
    views_more frame_view (frame_of (files_of c.args.tables.now) (binding_view c.args.binding.now)) c.loop-i.list.items c.push.new.self.items c.fold_frame.result
    c.args.fdes.now c.loop-i.i (frame_no 0 0) c.loop-i-test.true c.loop-i.invariant c.in_ok-push.ensures.items c.fold_frame.ensures

pub returns : goal.returns
returns c =
    c.loop-i.invariant
    ∙ ap (map (frame_of (files_of c.args.tables.now) (binding_view c.args.binding.now))) (take_all c.loop-i.i c.args.fdes.now (omega (arith, c.loop-i-test.false)))
