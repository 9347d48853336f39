use Rattle.std.proofs.Common.{◌≡◌, ◌+◌, drop, length}
use Rattle.str_merge.specs.Sites.{gathered, piece_lists}
use Rattle.str_merge.proofs.gathering.count_of.Given as goal

abbrev pub invariant-loop-n : goal.invariant-loop-n
invariant-loop-n l = l.count + length (gathered (piece_lists l.cuts) (drop l.n l.members)) ≡ length (gathered (piece_lists l.cuts) l.members)
