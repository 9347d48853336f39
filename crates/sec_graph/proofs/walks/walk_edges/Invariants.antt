use Rattle.std.proofs.Common.{◌≡◌}
use Rattle.lk_tables.specs.BindingView.{binding_view}
use Rattle.lk_tables.specs.TablesView.{files_of}
use Rattle.lk_tables.proofs.ByNumber.{section_rows}
use Rattle.sec_graph.specs.WalkEdges.{walk_ends}
use Rattle.sec_graph.proofs.walks.walk_edges.Given as goal

abbrev pub invariant-loop-file : goal.invariant-loop-file
invariant-loop-file l = l.rows ≡ section_rows (files_of l.tables) (walk_ends (files_of l.tables) (binding_view l.binding)) l.file
