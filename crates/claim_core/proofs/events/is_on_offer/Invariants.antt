use Rattle.std.proofs.Common.{◌≡◌, ℕ, ◌<◌}
use Rattle.std.specs.Prelude.{slice_index_or}
use Rattle.claim_core.specs.Events.{event}
use Rattle.claim_core.proofs.events.is_on_offer.Given as goal

abbrev pub invariant-loop-offer : goal.invariant-loop-offer
invariant-loop-offer l = (k : ℕ) → k < l.offer-index → slice_index_or l.offers k (event l.word l.rank) ≡ event l.word l.rank → ⊥
