use Rattle.std.proofs.Common.{ℕ, ◌<◌, length}
use Rattle.lk_tables.specs.BindingView.{binding_view}
use Rattle.lk_tables.specs.Files.{file_at}
use Rattle.lk_tables.specs.TablesView.{files_of}
use Rattle.sec_graph.specs.Prevailing.{StandsIfPrevailing}
use Rattle.sec_graph.proofs.prevailing.prevailing_stand.Given as goal

abbrev pub invariant-loop-file : goal.invariant-loop-file
invariant-loop-file l =
    (f i : ℕ) → f < l.file → i < length (file_at (files_of l.tables) f).head.symbols → StandsIfPrevailing (files_of l.tables) (binding_view l.binding) f i
