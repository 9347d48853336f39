use Rattle.std.proofs.Common.{◌≡◌, ◌++◌, drop, flat_map}
use Rattle.lk_tables.specs.BindingView.{binding_view}
use Rattle.lk_tables.specs.TablesView.{files_of}
use Rattle.link_sections.specs.PoolViews.{merged_views}
use Rattle.sec_graph.specs.Foldable as spec
use Rattle.sec_graph.proofs.fold_frames.push_frame_relocs.Given as goal

abbrev pub invariant-loop-fde : goal.invariant-loop-fde
invariant-loop-fde l =
    let give = spec.frame_fold_relocs (files_of l.tables) (binding_view l.binding) (merged_views l.pools) in
    l.list.items ++ flat_map give (drop l.fde-index l.fdes) ≡ l.fn.list.items ++ flat_map give l.fdes
