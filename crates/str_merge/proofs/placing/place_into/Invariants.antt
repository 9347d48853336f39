use Rattle.std.proofs.Common.{◌≡◌, ◌≤◌, ◌-◌, ◌*◌, length}
use Rattle.str_merge.specs.Gathering.{IsPlace}
use Rattle.str_merge.specs.Orders.{owns}
use Rattle.str_merge.specs.Placing.{IsPlaced}
use Rattle.str_merge.specs.Sites.{gathered, piece_lists}
use Rattle.str_merge.proofs.placing.place_into.Given as goal

-- each piece takes fewer than 2^31 bytes, and fewer than 2^20 before them
abbrev pub invariant-loop-done : goal.invariant-loop-done
invariant-loop-done l = record {
  within : l.done ≤ length l.numbers;
  room : length l.own.items ≡ 512;
  place : IsPlace (piece_lists l.cuts) l.members l.place;
  placed : IsPlaced (gathered (piece_lists l.cuts) l.members) (owns l.numbers l.done) l.fn.align l.placed;
  most : l.placed.size ≤ length (owns l.numbers l.done) * 2148532224;
}

abbrev pub decreases-loop-done : goal.decreases-loop-done
decreases-loop-done l = length l.numbers - l.done
