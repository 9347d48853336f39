use Rattle.std.proofs.Common.{◌≡◌, length}
use Rattle.sec_graph.proofs.graph.pieces_of.Given as goal

abbrev pub invariant-loop-file : goal.invariant-loop-file
invariant-loop-file l = length l.weights.items ≡ l.file
