use Rattle.std.proofs.Common.{◌≡◌, length}
use Rattle.str_merge.proofs.small_pools.pool_weights.Given as goal

abbrev pub invariant-loop-pool : goal.invariant-loop-pool
invariant-loop-pool l = length l.weights.items ≡ l.pool
