use Rattle.std.proofs.Common.{◌≤◌, sum}
use Rattle.lk_tables.specs.TablesView.{files_of}
use Rattle.lk_tables.proofs.ByNumber.{section_rows}
use Rattle.link_sections.specs.Merging.{pieces_at}
use Rattle.str_merge.specs.Counting.{added}
use Rattle.str_merge.proofs.counts.piece_bound.Given as goal

abbrev pub invariant-loop-file : goal.invariant-loop-file
invariant-loop-file l = added 0 (sum (section_rows (files_of l.tables) (pieces_at (files_of l.tables)) l.file)) ≤ l.total
