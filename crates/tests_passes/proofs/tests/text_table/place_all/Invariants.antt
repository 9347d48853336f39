use Rattle.std.proofs.Common.{ℕ, ◌<◌}
use Rattle.intern_race.specs.Interning.{HasPlaced, SitsAt}
use Rattle.tests_passes.proofs.tests.text_table.place_all.Given as goal

abbrev pub invariant-loop-i : goal.invariant-loop-i
invariant-loop-i l = record {
  sits : SitsAt l.interner l.seat;
  placed : (j : ℕ) → j < l.i → HasPlaced l.seat j;
}
