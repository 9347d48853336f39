use Rattle.std.proofs.Common.{◌≡◌, map, take}
use Rattle.lk_tables.specs.BindingView.{binding_view}
use Rattle.lk_tables.specs.TablesView.{files_of}
use Rattle.link_sections.specs.PoolViews.{merged_views}
use Rattle.sec_graph.specs.Foldable.{fold_reloc}
use Rattle.sec_graph.proofs.fold_lists.fold_relocs.Given as goal

abbrev pub invariant-loop-reloc : goal.invariant-loop-reloc
invariant-loop-reloc l = l.list.items ≡ map (fold_reloc (files_of l.tables) (binding_view l.binding) (merged_views l.pools) l.file) (take l.reloc-index l.relocs)
