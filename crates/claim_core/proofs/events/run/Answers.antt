use Rattle.std.proofs.Common.{◌≡◌, ℕ, List, take, slice_index_or, length, sym, ap, ◌∙◌, subst}
use Rattle.std.proofs.lemmas.List.{take_more, take_all}
use Rattle.claim_core.specs.declared.events.Event.{Event}
use Rattle.claim_core.specs.Events.{event, after, lowered, EachIsLeast}
use Rattle.claim_core.proofs.EventLemmas.{after-push, least-after}
use Rattle.claim_core.proofs.events.run.Goals as goal

pub loop-event-preserved : goal.loop-event-preserved
loop-event-preserved c =
    let events = c.args.events.now in
    let start = c.args.words.now in
    let i = c.loop-event.event-index in
    c.step.ensures
    ∙ ap (λ (l : List ℕ). lowered l (slice_index_or events i (event 0 0))) c.loop-event.invariant
    ∙ sym (after-push start (take i events) (slice_index_or events i (event 0 0)))
    ∙ sym (ap (λ (es : List Event). after start es) (take_more events i (event 0 0) c.loop-event-test.true))

pub returns-clause-least : goal.returns-clause-least
returns-clause-least c = λ offers start draws.
    let events = c.args.events.now in
    let whole : c.loop-event.words ≡ after c.args.words.now events = c.loop-event.invariant ∙ ap (λ (es : List Event). after c.args.words.now es) (take_all c.loop-event.event-index events c.loop-event-test.false) in
    let P : List ℕ → Type 0 = EachIsLeast offers in
    subst P (sym (whole ∙ ap (λ (l : List ℕ). after l events) start)) (least-after offers (length c.args.words.now) events draws)
