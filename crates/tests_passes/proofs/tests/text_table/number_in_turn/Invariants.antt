use Rattle.intern_race.specs.Interning.{SitsAt}
use Rattle.tests_passes.proofs.tests.text_table.number_in_turn.Given as goal

abbrev pub invariant-loop-start : goal.invariant-loop-start
invariant-loop-start l = SitsAt l.interner l.seat
