use Rattle.std.proofs.Common.{◌≡◌, ◌++◌, map}
use Rattle.std.specs.List.{range_with_len}
use Rattle.intern_race.specs.Interning.{SitsAt}
use Rattle.name_numbers.specs.Placed.{KeepsPlaced}
use Rattle.name_numbers.specs.Texts.{number_at}
use Rattle.name_numbers.proofs.racing.push_numbers.Given as goal

abbrev pub invariant-loop-k : goal.invariant-loop-k
invariant-loop-k l = record {
  sits : SitsAt l.table l.seat;
  keeps : KeepsPlaced l.fn.seat.placed l.seat.placed;
  list : l.numbers.items ≡ l.fn.numbers.items ++ map (number_at l.texts) (range_with_len l.fn.start l.k);
}
