use Rattle.std.proofs.Common.{arith}
use Rattle.str_merge.specs.Members.{having}
use Rattle.str_merge.proofs.members.empty_lists.Goals as goal

pub returns : goal.returns
unfolding having
returns c = record { count_is = omega (arith, c.loop-made.invariant.count); each = λ p d lt. c.loop-made.invariant.empty p d (omega (arith, c.loop-made.invariant.count)) }
