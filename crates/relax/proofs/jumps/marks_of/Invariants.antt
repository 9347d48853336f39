use Rattle.std.proofs.Common.{◌≡◌, ◌*◌, ◌≤◌, ◌^◌, map}
use Rattle.std.specs.List.{All, range_with_len}
use Rattle.relax.specs.CallSizes.{first_call}
use Rattle.relax.specs.Points.{IsLowMark, mark_at, rooms_before}
use Rattle.relax.proofs.jumps.marks_of.Given as goal

abbrev pub invariant-loop-i : goal.invariant-loop-i
invariant-loop-i l = record {
  marks : l.marks.items ≡ map (mark_at l.members l.rows) (range_with_len 0 l.i);
  low : All IsLowMark l.marks.items;
  start : l.start ≡ rooms_before l.members l.i;
  most : l.start ≤ l.i * 2 ^ 65;
  first : l.first ≡ first_call l.rows l.i;
}
