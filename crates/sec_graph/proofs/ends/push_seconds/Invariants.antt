use Rattle.std.proofs.Common.{◌≡◌, ◌++◌, drop, map}
use Rattle.sec_graph.proofs.ends.push_seconds.Given as goal

abbrev pub invariant-loop-pair : goal.invariant-loop-pair
invariant-loop-pair l = l.ends.items ++ map (λ p. p.to) (drop l.pair-index l.pairs) ≡ l.fn.ends.items ++ map (λ p. p.to) l.pairs
