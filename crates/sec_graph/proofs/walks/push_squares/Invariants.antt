use Rattle.std.proofs.Common.{◌≡◌, ◌++◌, drop, flat_map, map}
use Rattle.lk_tables.specs.BindingView.{binding_view}
use Rattle.lk_tables.specs.Objects.{group_view}
use Rattle.lk_tables.specs.TablesView.{files_of}
use Rattle.sec_graph.specs.WalkEdges.{square_in}
use Rattle.sec_graph.proofs.walks.push_squares.Given as goal

abbrev pub invariant-loop-group : goal.invariant-loop-group
invariant-loop-group l =
    let square = square_in (files_of l.tables) (binding_view l.binding) l.file in
    l.pairs.items ++ flat_map square (map group_view (drop l.group-index l.groups)) ≡ l.fn.pairs.items ++ flat_map square (map group_view l.groups)
