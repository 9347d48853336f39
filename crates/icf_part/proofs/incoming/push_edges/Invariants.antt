use Rattle.icf_part.specs.Classes.{AreAdded, lists_of}
use Rattle.icf_part.proofs.incoming.push_edges.Given as goal

abbrev pub invariant-loop-k : goal.invariant-loop-k
invariant-loop-k l = AreAdded l.row l.k l.fn.a (lists_of l.initial.into.items) (lists_of l.into.items)
