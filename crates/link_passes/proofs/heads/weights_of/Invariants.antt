use Rattle.std.proofs.Common.{◌≡◌, length}
use Rattle.link_passes.proofs.heads.weights_of.Given as goal

abbrev pub invariant-loop-at : goal.invariant-loop-at
invariant-loop-at l = length l.weights.items ≡ l.at
