use Rattle.std.proofs.Common.{◌≡◌, ◌++◌, drop, flat_map}
use Rattle.lk_tables.specs.BindingView.{binding_view}
use Rattle.lk_tables.specs.TablesView.{files_of}
use Rattle.sec_graph.specs.Graph as spec
use Rattle.sec_graph.proofs.frame_ends.push_targets.Given as goal

abbrev pub invariant-loop-reloc : goal.invariant-loop-reloc
invariant-loop-reloc l =
    let target = spec.record_target (files_of l.tables) (binding_view l.binding) l.file in
    l.ends.items ++ flat_map target (drop l.reloc-index l.relocs) ≡ l.fn.ends.items ++ flat_map target l.relocs
