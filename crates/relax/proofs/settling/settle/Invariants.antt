use Rattle.std.proofs.Common.{◌≤◌}
use Rattle.relax.specs.Jumps.{all_lost}
use Rattle.relax.specs.Losses.{AreRising}
use Rattle.relax.proofs.settling.settle.Given as goal

abbrev pub invariant-loop-look : goal.invariant-loop-look
invariant-loop-look l = record {
  rising : AreRising l.jumps l.sizes.items l.losses;
  lost : all_lost l.sizes.items ≤ all_lost l.fn.sizes.items;
}
