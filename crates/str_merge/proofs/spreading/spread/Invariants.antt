use Rattle.std.proofs.Common.{◌≡◌}
use Rattle.lk_tables.specs.TablesView.{files_of}
use Rattle.lk_tables.proofs.ByNumber.{section_rows}
use Rattle.str_merge.specs.Spreading.{answer_in, sites_before}
use Rattle.str_merge.proofs.spreading.spread.Given as goal

abbrev pub invariant-loop-file : goal.invariant-loop-file
invariant-loop-file l = record {
  list : l.list.items ≡ section_rows (files_of l.tables) (answer_in (files_of l.tables) l.kept l.answers) l.file;
  next : l.next ≡ sites_before (files_of l.tables) l.kept l.file;
}
