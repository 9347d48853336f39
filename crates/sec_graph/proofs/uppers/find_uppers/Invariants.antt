use Rattle.lk_tables.specs.TablesView.{files_of}
use Rattle.lk_tables.specs.Uppers.{AreListed, uppers_at}
use Rattle.lk_tables.proofs.ByNumber.{section_rows}
use Rattle.sec_graph.proofs.uppers.find_uppers.Given as goal

abbrev pub invariant-loop-file : goal.invariant-loop-file
invariant-loop-file l = AreListed (section_rows (files_of l.tables) (uppers_at (files_of l.tables)) l.file) l.uppers
