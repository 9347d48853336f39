use Rattle.std.proofs.Common.{◌≡◌, ◌++◌, drop, flat_map, map}
use Rattle.lk_tables.specs.BindingView.{binding_view}
use Rattle.lk_tables.specs.TablesView.{files_of}
use Rattle.sec_graph.specs.FrameKeys.{number_of}
use Rattle.sec_graph.specs.Graph as spec
use Rattle.sec_graph.proofs.frame_ends.push_all.Given as goal

abbrev pub invariant-loop-i : goal.invariant-loop-i
invariant-loop-i l =
    let give = spec.cie_ends (files_of l.tables) (binding_view l.binding) in
    l.ends.items ++ flat_map give (map number_of (drop l.i l.cies)) ≡ l.fn.ends.items ++ flat_map give (map number_of l.cies)
