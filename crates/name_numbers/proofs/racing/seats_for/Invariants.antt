use Rattle.std.proofs.Common.{◌≡◌, All, vec_len}
use Rattle.intern_race.specs.Interning.{SitsAt}
use Rattle.name_numbers.specs.Placed.{Knows}
use Rattle.name_numbers.proofs.racing.seats_for.Given as goal

abbrev pub invariant-loop-worker : goal.invariant-loop-worker
invariant-loop-worker l = record {
  sits : SitsAt l.table l.seat;
  same : l.seat.placed ≡ l.fn.seat.placed;
  count : vec_len l.seats ≡ l.worker;
  seated : All (Knows l.table l.fn.seat.placed) l.seats.items;
}
