use Rattle.std.proofs.Common.{◌-◌, length}
use Rattle.reloc_apply.proofs.StayingSteps.{IsFilled}
use Rattle.reloc_apply.proofs.staying.fill_staying.Given as goal

abbrev pub invariant-loop-k : goal.invariant-loop-k
invariant-loop-k l = IsFilled l.cuts l.raw l.fn.block l.block l.from l.at l.k l.old l.new

abbrev pub decreases-loop-k : goal.decreases-loop-k
decreases-loop-k l = length l.cuts - l.k
