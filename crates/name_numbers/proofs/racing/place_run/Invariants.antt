use Rattle.std.proofs.Common.{◌≤◌, ◌-◌, length}
use Rattle.intern_race.specs.Interning.{SitsAt}
use Rattle.name_numbers.specs.Placed.{HasRoom, HasSlots}
use Rattle.name_numbers.proofs.racing.place_run.Given as goal

abbrev pub invariant-loop-done : goal.invariant-loop-done
invariant-loop-done l = record {
  sits : SitsAt l.table l.seat;
  room : HasRoom l.block;
  within : l.done ≤ length l.hashes;
  slots : HasSlots l.table l.seat.placed l.fn.start l.done l.slots.items;
}

abbrev pub decreases-loop-done : goal.decreases-loop-done
decreases-loop-done l = length l.hashes - l.done
