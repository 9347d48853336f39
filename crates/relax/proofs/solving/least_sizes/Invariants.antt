use Rattle.relax.specs.Jumps.{AreBelow, AreLawful, all_lost}
use Rattle.relax.proofs.solving.least_sizes.Given as goal

abbrev pub invariant-loop-sizes : goal.invariant-loop-sizes
invariant-loop-sizes l = record {
  lawful : AreLawful l.jumps l.sizes.items;
  below : AreBelow l.jumps l.sizes.items;
}

abbrev pub decreases-loop-sizes : goal.decreases-loop-sizes
decreases-loop-sizes l = all_lost l.sizes.items
