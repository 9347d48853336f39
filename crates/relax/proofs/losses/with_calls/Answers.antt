use Rattle.std.proofs.Common.{arith}
use Rattle.relax.proofs.LeastSizes.{upto_low}
use Rattle.relax.proofs.losses.with_calls.Goals as goal

pub overflow_add-lost : goal.overflow_add-lost
overflow_add-lost c = omega (arith, c.loop-i.invariant, upto_low c.args.sizes.now c.loop-i.i, c.saturating_sub.ensures, c.ranges.last.fits)
