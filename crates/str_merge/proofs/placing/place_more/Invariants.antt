use Rattle.std.proofs.Common.{◌+◌, ◌*◌, ◌≤◌, take}
use Rattle.str_merge.specs.Gathering.{IsPlace}
use Rattle.str_merge.specs.Placing.{AddsPieces}
use Rattle.str_merge.specs.Sites.{gathered, piece_lists}
use Rattle.str_merge.proofs.placing.place_more.Given as goal

-- each piece takes fewer than 2^31 bytes, and fewer than 2^20 before them
abbrev pub invariant-loop-n : goal.invariant-loop-n
invariant-loop-n l = record {
  placed : AddsPieces (gathered (piece_lists l.cuts) l.members) (take l.n l.indexes) l.fn.align l.fn.placed l.placed;
  place : IsPlace (piece_lists l.cuts) l.members l.place;
  most : l.placed.size ≤ l.fn.placed.size + l.n * 2148532224;
}
