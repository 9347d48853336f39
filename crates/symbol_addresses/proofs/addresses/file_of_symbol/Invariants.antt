use Rattle.std.proofs.Common.{◌-◌, ◌≤◌, length}
use Rattle.lk_tables.specs.Files.{first_symbol}
use Rattle.lk_tables.specs.TablesView.{files_of}
use Rattle.symbol_addresses.proofs.addresses.file_of_symbol.Given as goal

abbrev pub invariant-loop-file : goal.invariant-loop-file
invariant-loop-file l = (l.file ≤ length (files_of l.tables)) × (l.end ≤ length (files_of l.tables)) × (first_symbol (files_of l.tables) l.file ≤ l.number)

abbrev pub decreases-loop-file : goal.decreases-loop-file
decreases-loop-file l = l.end - l.file
