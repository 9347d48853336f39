use Rattle.intern_race.specs.Interning.{SitsAt}
use Rattle.tests_passes.proofs.tests.text_table.number_by_two.Given as goal

abbrev pub invariant-loop-call : goal.invariant-loop-call
invariant-loop-call l = SitsAt l.interner l.left × SitsAt l.interner l.right
