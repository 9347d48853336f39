use Rattle.std.proofs.Common.{◌≡◌, map}
use Rattle.std.specs.List.{range_with_len}
use Rattle.lk_tables.specs.BindingView.{binding_view}
use Rattle.lk_tables.specs.TablesView.{files_of}
use Rattle.sec_graph.specs.WalkEdges.{walk_ends}
use Rattle.sec_graph.proofs.walks.live_walks.Given as goal

abbrev pub invariant-loop-index : goal.invariant-loop-index
invariant-loop-index l = l.rows ≡ map (walk_ends (files_of l.tables) (binding_view l.binding) l.file) (range_with_len 0 l.index)
