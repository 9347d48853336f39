use Rattle.std.proofs.Common.{◌≡◌, ◌≤◌, ◌-◌, length, map}
use Rattle.std.specs.List.{range_with_len}
use Rattle.intern_race.specs.Interning.{SitsAt}
use Rattle.intern_race.specs.Texts.{tag_at}
use Rattle.name_numbers.specs.Placed.{AreNumbered, HasRoom}
use Rattle.name_numbers.proofs.racing.number_run.Given as goal

abbrev pub invariant-loop-done : goal.invariant-loop-done
invariant-loop-done l = record {
  sits : SitsAt l.table l.seat;
  room : HasRoom l.block;
  within : l.done ≤ length l.texts;
  numbered : AreNumbered l.texts l.seat.placed l.done l.numbers.items;
  tags : l.tags.items ≡ map (tag_at l.texts) (range_with_len 0 l.done);
}

abbrev pub decreases-loop-done : goal.decreases-loop-done
decreases-loop-done l = length l.texts - l.done
