use Rattle.std.proofs.Common.{◌≡◌, flat_map}
use Rattle.std.specs.List.{range_with_len}
use Rattle.lk_tables.specs.BindingView.{binding_view}
use Rattle.lk_tables.specs.TablesView.{files_of}
use Rattle.link_sections.specs.FoldItems.{item_views}
use Rattle.link_sections.specs.PoolViews.{merged_views}
use Rattle.sec_graph.specs.Foldable.{item_if}
use Rattle.sec_graph.proofs.fold_lists.items.Given as goal

abbrev pub invariant-loop-section : goal.invariant-loop-section
invariant-loop-section l = item_views l.list.items ≡ flat_map (item_if (files_of l.tables) (binding_view l.binding) (merged_views l.pools) l.kept l.barred) (range_with_len 0 l.section)
