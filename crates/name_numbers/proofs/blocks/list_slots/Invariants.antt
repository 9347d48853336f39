use Rattle.std.proofs.Common.{◌+◌, length}
use Rattle.intern_race.specs.Interning.{SitsAt}
use Rattle.name_numbers.specs.Placed.{HasSlots, KeepsPlaced}
use Rattle.name_numbers.proofs.blocks.list_slots.Given as goal

abbrev pub invariant-loop-k : goal.invariant-loop-k
invariant-loop-k l = record {
  sits : SitsAt l.table l.seat;
  keeps : KeepsPlaced l.fn.seat.placed l.seat.placed;
  slots : HasSlots l.table l.seat.placed l.fn.start (length l.fn.slots.items + l.k) l.slots.items;
}
