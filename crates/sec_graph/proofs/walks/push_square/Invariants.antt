use Rattle.std.proofs.Common.{◌≡◌, ◌++◌, drop}
use Rattle.sec_graph.specs.WalkEdges.{square}
use Rattle.sec_graph.proofs.walks.push_square.Given as goal

abbrev pub invariant-loop-section : goal.invariant-loop-section
invariant-loop-section l = l.pairs.items ++ square (drop l.section-index l.from) l.to ≡ l.fn.pairs.items ++ square l.from l.to
