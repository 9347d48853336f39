use Rattle.std.proofs.Common.{◌≡◌, map}
use Rattle.std.specs.List.{range_with_len}
use Rattle.relax.specs.Jumps.{raised_size, some_rises}
use Rattle.relax.proofs.solving.next_round.Given as goal

abbrev pub invariant-loop-k : goal.invariant-loop-k
invariant-loop-k l = record {
  raised : l.raised.items ≡ map (raised_size l.jumps l.sizes) (range_with_len 0 l.k);
  rises : l.rises ≡ some_rises l.jumps l.sizes l.k;
}
