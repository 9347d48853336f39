use Rattle.std.proofs.Common.{◌≡◌, map, take}
use Rattle.lk_tables.specs.BindingView.{binding_view}
use Rattle.lk_tables.specs.TablesView.{files_of}
use Rattle.link_sections.specs.FoldItems.{frame_views}
use Rattle.sec_graph.specs.Foldable.{frame_of}
use Rattle.sec_graph.proofs.fold_frames.fold_frames.Given as goal

abbrev pub invariant-loop-i : goal.invariant-loop-i
invariant-loop-i l = frame_views l.list.items ≡ map (frame_of (files_of l.tables) (binding_view l.binding)) (take l.i l.fdes)
