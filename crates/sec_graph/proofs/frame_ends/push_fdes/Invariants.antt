use Rattle.std.proofs.Common.{◌≡◌, ◌++◌, drop, flat_map}
use Rattle.lk_tables.specs.BindingView.{binding_view}
use Rattle.lk_tables.specs.TablesView.{files_of}
use Rattle.sec_graph.specs.Graph as spec
use Rattle.sec_graph.proofs.frame_ends.push_fdes.Given as goal

abbrev pub invariant-loop-fde : goal.invariant-loop-fde
invariant-loop-fde l =
    let give = spec.fde_ends (files_of l.tables) (binding_view l.binding) in
    l.ends.items ++ flat_map give (drop l.fde-index l.fdes) ≡ l.fn.ends.items ++ flat_map give l.fdes
