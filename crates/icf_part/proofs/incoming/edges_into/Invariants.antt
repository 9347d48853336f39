use Rattle.icf_part.specs.Classes.{lists_of}
use Rattle.icf_part.proofs.EdgesInto.{IsIntoUpto}
use Rattle.icf_part.proofs.incoming.edges_into.Given as goal

abbrev pub invariant-loop-a : goal.invariant-loop-a
invariant-loop-a l = IsIntoUpto l.ends l.a (lists_of l.into.items)
