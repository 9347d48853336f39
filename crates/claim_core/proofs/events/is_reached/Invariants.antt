use Rattle.std.proofs.Common.{ℕ, ◌<◌, get_or}
use Rattle.claim_core.specs.Events.{IsOffered}
use Rattle.claim_core.proofs.events.is_reached.Given as goal

abbrev pub invariant-loop-word : goal.invariant-loop-word
invariant-loop-word l = (k : ℕ) → k < l.word → IsOffered l.offers k (get_or l.words k 0)
