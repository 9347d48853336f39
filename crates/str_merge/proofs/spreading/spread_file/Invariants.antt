use Rattle.std.proofs.Common.{◌≡◌, ◌++◌, map}
use Rattle.std.specs.List.{range_with_len}
use Rattle.lk_tables.specs.TablesView.{files_of}
use Rattle.str_merge.specs.Spreading.{answer_in, sites_upto}
use Rattle.str_merge.proofs.spreading.spread_file.Given as goal

abbrev pub invariant-loop-index : goal.invariant-loop-index
invariant-loop-index l = record {
  list : l.list.items ≡ l.fn.list.items ++ map (answer_in (files_of l.tables) l.kept l.answers l.file) (range_with_len 0 l.index);
  next : l.next ≡ sites_upto (files_of l.tables) l.kept l.file l.index;
}
