use Rattle.std.proofs.Common.{◌≡◌, ◌*◌, ℕ, map}
use Rattle.std.specs.List.{range_with_len}
use Rattle.relax.specs.Jumps.{lost_upto}
use Rattle.relax.proofs.losses.coarse_sums.Given as goal

abbrev pub invariant-loop-j : goal.invariant-loop-j
invariant-loop-j l = record {
  sums : l.sums.items ≡ map (λ (n : ℕ). lost_upto l.sizes (n * 16)) (range_with_len 0 l.j);
  sum : l.sum ≡ lost_upto l.sizes (l.j * 16);
}
