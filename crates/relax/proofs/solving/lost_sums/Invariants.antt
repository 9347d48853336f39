use Rattle.std.proofs.Common.{◌≡◌, map}
use Rattle.std.specs.List.{range_with_len}
use Rattle.relax.specs.Jumps.{lost_upto}
use Rattle.relax.proofs.solving.lost_sums.Given as goal

abbrev pub invariant-loop-k : goal.invariant-loop-k
invariant-loop-k l = record {
  sums : l.sums.items ≡ map (lost_upto l.sizes) (range_with_len 0 l.k);
  sum : l.sum ≡ lost_upto l.sizes l.k;
}
