use Rattle.icf_part.specs.Chosen.{AreMarked}
use Rattle.icf_part.proofs.sharing.marked.Given as goal

abbrev pub invariant-loop-a : goal.invariant-loop-a
invariant-loop-a l = AreMarked l.bytes l.a l.shared.items
