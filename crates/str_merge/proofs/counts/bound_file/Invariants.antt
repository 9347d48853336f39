use Rattle.std.proofs.Common.{◌≤◌, map, sum}
use Rattle.std.specs.List.{range_with_len}
use Rattle.lk_tables.specs.TablesView.{files_of}
use Rattle.link_sections.specs.Merging.{pieces_at}
use Rattle.str_merge.specs.Counting.{added}
use Rattle.str_merge.proofs.counts.bound_file.Given as goal

abbrev pub invariant-loop-index : goal.invariant-loop-index
invariant-loop-index l = added l.fn.before (sum (map (pieces_at (files_of l.tables) l.file) (range_with_len 0 l.index))) ≤ l.total
