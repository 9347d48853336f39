use Rattle.std.proofs.Common.{◌≡◌, map, take}
use Rattle.lk_tables.specs.BindingView.{binding_view}
use Rattle.lk_tables.specs.TablesView.{files_of}
use Rattle.link_sections.specs.FoldItems.{item_views}
use Rattle.link_sections.specs.PoolViews.{merged_views}
use Rattle.sec_graph.specs.Foldable.{item_there}
use Rattle.sec_graph.proofs.fold_lists.items_at.Given as goal

abbrev pub invariant-loop-i : goal.invariant-loop-i
invariant-loop-i l = item_views l.list.items ≡ map (item_there (files_of l.tables) (binding_view l.binding) (merged_views l.pools) l.sections) (take l.i l.places)
