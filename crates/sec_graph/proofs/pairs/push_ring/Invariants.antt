use Rattle.std.proofs.Common.{◌≡◌, ◌++◌, drop}
use Rattle.sec_graph.specs.Graph as spec
use Rattle.sec_graph.proofs.pairs.push_ring.Given as goal

abbrev pub invariant-loop-n : goal.invariant-loop-n
invariant-loop-n l = l.pairs.items ++ spec.chain l.last (drop l.n l.members) l.first ≡ l.fn.pairs.items ++ spec.ring l.members
