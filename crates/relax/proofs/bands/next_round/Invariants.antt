use Rattle.std.proofs.Common.{◌≡◌, ◌||◌, drop, length}
use Rattle.std.specs.List.{list_any}
use Rattle.relax.specs.Bands.{is_late, raised_from}
use Rattle.relax.proofs.bands.next_round.Given as goal

abbrev pub invariant-loop-one : goal.invariant-loop-one
invariant-loop-one l = record {
  raised : raised_from l.sizes (drop l.one-index l.opens) l.raised.items ≡ raised_from l.sizes l.opens l.sizes;
  count : length l.raised.items ≡ length l.sizes;
  rises : (l.rises || list_any (is_late l.sizes) (drop l.one-index l.opens)) ≡ list_any (is_late l.sizes) l.opens;
}
