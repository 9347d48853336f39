use Rattle.std.proofs.Common.{◌≡◌, ◌+◌, ◌++◌, drop, length}
use Rattle.str_merge.specs.Parts.{lists_at, part_lists}
use Rattle.str_merge.specs.Sites.{cut_views, gathered, piece_lists}
use Rattle.str_merge.proofs.parts.part_rows.Given as goal

abbrev pub invariant-loop-n : goal.invariant-loop-n
invariant-loop-n l = record {
  count : l.at + length (gathered (piece_lists l.cuts) (drop l.n l.members)) ≡ length (gathered (piece_lists l.cuts) l.members);
  rows : l.rows ++ part_lists (lists_at (cut_views l.cuts) (drop l.n l.members)) (drop l.at l.ranks) ≡ part_lists (lists_at (cut_views l.cuts) l.members) l.ranks;
}
