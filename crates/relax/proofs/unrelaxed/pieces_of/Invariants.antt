use Rattle.std.proofs.Common.{◌≡◌, length}
use Rattle.relax.proofs.unrelaxed.pieces_of.Given as goal

abbrev pub invariant-loop-file : goal.invariant-loop-file
invariant-loop-file l = length l.weights.items ≡ l.file-index
