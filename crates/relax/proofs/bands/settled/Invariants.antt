use Rattle.std.proofs.Common.{List, length}
use Rattle.std.specs.List.{All}
use Rattle.relax.specs.declared.jumps.Jump.{Jump}
use Rattle.relax.specs.Bands.{AreRaised, IsBanded, IsOpenOf}
use Rattle.relax.proofs.bands.settled.Given as goal

abbrev pub invariant-loop-round : goal.invariant-loop-round
invariant-loop-round l = record {
  opens : All (IsOpenOf (length l.sizes.items)) l.opens;
  raised : (jumps : List Jump) → IsBanded jumps l.opens l.fn.sizes.items → AreRaised jumps l.sizes.items;
}
