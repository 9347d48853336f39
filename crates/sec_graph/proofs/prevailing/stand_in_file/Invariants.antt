use Rattle.std.proofs.Common.{ℕ, ◌<◌}
use Rattle.lk_tables.specs.BindingView.{binding_view}
use Rattle.lk_tables.specs.TablesView.{files_of}
use Rattle.sec_graph.specs.Prevailing.{StandsIfPrevailing}
use Rattle.sec_graph.proofs.prevailing.stand_in_file.Given as goal

abbrev pub invariant-loop-symbol : goal.invariant-loop-symbol
invariant-loop-symbol l = (i : ℕ) → i < l.symbol → StandsIfPrevailing (files_of l.tables) (binding_view l.binding) l.file i
