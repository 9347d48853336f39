use Rattle.claim_core.specs.Events.{AllInRow}
use Rattle.claim_bench.proofs.offers_of.Given as goal

abbrev pub invariant-loop-i : goal.invariant-loop-i
invariant-loop-i l = AllInRow l.words l.offers.items
