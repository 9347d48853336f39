use Rattle.intern_race.specs.Interning.{SitsAt}
use Rattle.tests_passes.proofs.tests.text_table.place_from.Given as goal

abbrev pub invariant-loop-k : goal.invariant-loop-k
invariant-loop-k l = SitsAt l.interner l.seat
