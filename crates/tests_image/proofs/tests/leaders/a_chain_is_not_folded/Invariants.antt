use Rattle.tests_image.proofs.InOrder.{AreNumbered}
use Rattle.tests_image.proofs.tests.leaders.a_chain_is_not_folded.Given as goal

abbrev pub invariant-loop-n : goal.invariant-loop-n
invariant-loop-n g l = AreNumbered l.items.items l.n
