use Rattle.std.proofs.Common.{◌≡◌, ◌==◌, map, take, vec_len, vec_capacity}
use Rattle.std.specs.Slots.{slots_items}
use Rattle.sec_gc.proofs.marks.first_marks.Given as goal

abbrev pub invariant-loop-section : goal.invariant-loop-section
invariant-loop-section l = record {
  copied : l.marked.items ≡ map (λ word. word == 1) (take l.section (slots_items l.closed.words));
  length : vec_len l.marked ≡ l.section;
  room : vec_capacity l.marked ≡ l.count;
}
