use Rattle.std.proofs.Common.{◌≡◌, length}
use Rattle.intern_race.specs.Interning.{SitsAt}
use Rattle.name_numbers.specs.Placed.{AreEarly, KeepsPlaced}
use Rattle.name_numbers.proofs.blocks.place_listed.Given as goal

abbrev pub invariant-loop-n : goal.invariant-loop-n
invariant-loop-n l = record {
  sits : SitsAt l.table l.seat;
  keeps : KeepsPlaced l.fn.seat.placed l.seat.placed;
  len : length l.early ≡ length l.initial.early;
  early : AreEarly l.table l.seat.placed l.fn.from (length l.hashes) l.early;
}
