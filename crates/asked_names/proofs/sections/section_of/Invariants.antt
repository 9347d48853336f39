use Rattle.std.proofs.Common.{◌≡◌, ℕ, ◌<◌, false, length}
use Rattle.lk_tables.specs.Files.{file_at}
use Rattle.lk_tables.specs.TablesView.{files_of}
use Rattle.asked_names.specs.AskedNames.{has_name}
use Rattle.asked_names.proofs.sections.section_of.Given as goal

abbrev pub invariant-loop-file : goal.invariant-loop-file
invariant-loop-file l = (f i : ℕ) → f < l.file → i < length (file_at (files_of l.tables) f).head.symbols → has_name (file_at (files_of l.tables) f) i l.name ≡ false
