use Rattle.std.proofs.Common.{◌≡◌, ◌*◌}
use Rattle.relax.specs.Jumps.{lost_upto}
use Rattle.relax.proofs.losses.with_runs.Given as goal

abbrev pub invariant-loop-i : goal.invariant-loop-i
invariant-loop-i l = l.lost ≡ lost_upto l.sizes (l.i * l.width)
