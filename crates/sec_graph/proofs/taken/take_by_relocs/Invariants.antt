use Rattle.std.proofs.Common.{◌≡◌, drop, flat_map}
use Rattle.lk_tables.specs.BindingView.{binding_view}
use Rattle.lk_tables.specs.TablesView.{files_of}
use Rattle.lk_tables.specs.Reach.{with_marked}
use Rattle.sec_graph.specs.Taken.{taken_by}
use Rattle.sec_graph.proofs.taken.take_by_relocs.Given as goal

abbrev pub invariant-loop-reloc : goal.invariant-loop-reloc
invariant-loop-reloc l =
    with_marked l.taken.items (flat_map (taken_by (files_of l.tables) (binding_view l.binding) l.file) (drop l.reloc-index l.relocs))
    ≡ with_marked l.fn.taken.items (flat_map (taken_by (files_of l.tables) (binding_view l.binding) l.file) l.relocs)
