use Rattle.std.proofs.Common.{◌≡◌, length}
use Rattle.str_merge.proofs.cuts.weights_of.Given as goal

abbrev pub invariant-loop-i : goal.invariant-loop-i
invariant-loop-i l = length l.weights.items ≡ l.i
