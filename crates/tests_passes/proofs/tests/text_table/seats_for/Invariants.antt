use Rattle.std.proofs.Common.{◌≡◌, All, vec_len}
use Rattle.intern_race.specs.Interning.{SitsAt}
use Rattle.tests_passes.proofs.tests.text_table.seats_for.Given as goal

abbrev pub invariant-loop-worker : goal.invariant-loop-worker
invariant-loop-worker l = record {
  sits : SitsAt l.interner l.seat;
  count : vec_len l.seats ≡ l.worker;
  seated : All (SitsAt l.interner) l.seats.items;
}
