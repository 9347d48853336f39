use Rattle.std.proofs.Common.{◌≡◌, ◌++◌, drop, map}
use Rattle.sec_graph.specs.Graph.{pair}
use Rattle.sec_graph.proofs.walks.push_all.Given as goal

abbrev pub invariant-loop-section : goal.invariant-loop-section
invariant-loop-section l = l.pairs.items ++ map (pair l.from) (drop l.section-index l.to) ≡ l.fn.pairs.items ++ map (pair l.from) l.to
