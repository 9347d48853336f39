use Rattle.std.proofs.Common.{◌≡◌, take}
use Rattle.claim_core.specs.Events.{after}
use Rattle.claim_core.proofs.events.run.Given as goal

abbrev pub invariant-loop-event : goal.invariant-loop-event
invariant-loop-event l = l.words ≡ after l.initial.words (take l.event-index l.events)
