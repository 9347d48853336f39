use Rattle.std.proofs.Common.{IsTrue, Bool, ⊎_elim, subst, arith, rules}
use Rattle.claim_core.proofs.EventLemmas.{IsReached-offered, offered-IsReached, IsReached-exactly}
use Rattle.claim_core.proofs.events.is_reached.Goals as goal

pub returns-then-not-is_on_offer-clause-reached : goal.returns-then-not-is_on_offer-clause-reached
returns-then-not-is_on_offer-clause-reached c =
    let wrong = c.is_on_offer.ensures in
    let P : Bool → Type 0 = λ b. IsTrue b in (
      λ yes. let no : ⊥ = cc in absurd no,
      λ reached. ⊎_elim
          (λ none. absurd (c.if-rank.true none))
          (λ has. subst P c.if-not-is_on_offer.true (wrong.1 has))
          (IsReached-offered c.args.offers.now c.args.words.now reached c.loop-word.word c.loop-word-test.true),
    )

pub returns-then-not-is_on_offer-clause-exactly : goal.returns-then-not-is_on_offer-clause-exactly
returns-then-not-is_on_offer-clause-exactly c = IsReached-exactly c.args.offers.now c.args.words.now (λ w h. omega (arith, c.type_inv.words w))

pub returns-clause-reached : goal.returns-clause-reached
returns-clause-reached c = (
  λ yes. offered-IsReached c.args.offers.now c.args.words.now (λ w h. omega (arith, c.type_inv.words w)) (λ w h. c.loop-word.invariant w (omega (arith, c.loop-word-test.false))),
  λ reached. search rules,
)

pub returns-clause-exactly : goal.returns-clause-exactly
returns-clause-exactly c = IsReached-exactly c.args.offers.now c.args.words.now (λ w h. omega (arith, c.type_inv.words w))
