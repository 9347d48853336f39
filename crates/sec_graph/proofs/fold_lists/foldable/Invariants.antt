use Rattle.std.proofs.Common.{◌≡◌}
use Rattle.std.specs.List.{filter, range_with_len}
use Rattle.lk_tables.specs.BindingView.{binding_view}
use Rattle.lk_tables.specs.TablesView.{files_of}
use Rattle.sec_graph.specs.Foldable.{is_foldable}
use Rattle.sec_graph.proofs.fold_lists.foldable.Given as goal

abbrev pub invariant-loop-section : goal.invariant-loop-section
invariant-loop-section l = l.list.items ≡ filter (is_foldable (files_of l.tables) (binding_view l.binding) l.kept l.barred) (range_with_len 0 l.section)
