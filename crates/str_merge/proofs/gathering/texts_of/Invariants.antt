use Rattle.std.proofs.Common.{◌≡◌, take}
use Rattle.str_merge.specs.Sites.{gathered, piece_lists, texts_of}
use Rattle.str_merge.proofs.gathering.texts_of.Given as goal

abbrev pub invariant-loop-n : goal.invariant-loop-n
invariant-loop-n l = l.texts ≡ texts_of (gathered (piece_lists l.cuts) (take l.n l.members))
