use Rattle.std.proofs.Common.{◌≡◌, ◌++◌, drop, map}
use Rattle.lk_tables.specs.BindingView.{binding_view}
use Rattle.lk_tables.specs.TablesView.{files_of}
use Rattle.link_sections.specs.PoolViews.{merged_views}
use Rattle.sec_graph.specs.Foldable as spec
use Rattle.sec_graph.proofs.fold_frames.push_relocs.Given as goal

abbrev pub invariant-loop-reloc : goal.invariant-loop-reloc
invariant-loop-reloc l =
    let give = spec.record_reloc (files_of l.tables) (binding_view l.binding) (merged_views l.pools) l.file l.from in
    l.list.items ++ map give (drop l.reloc-index l.relocs) ≡ l.fn.list.items ++ map give l.relocs
