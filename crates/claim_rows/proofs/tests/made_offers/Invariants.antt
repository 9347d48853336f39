use Rattle.claim_core.specs.Events.{AllInRow}
use Rattle.claim_rows.proofs.tests.made_offers.Given as goal

abbrev pub invariant-loop-place : goal.invariant-loop-place
invariant-loop-place l = AllInRow 10000 l.offers.items
