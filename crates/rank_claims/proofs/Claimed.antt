-- Steps keep their claims when more are made or joined, and words keep theirs.
use Rattle.std.proofs.Common.{◌≡◌, ◌≢◌, ℕ, ◌<◌, ◌≤◌, ◌⊎◌, inl, inr, List, [], ◌∷◌, ◌++◌, length, get_or, sym, ap, subst, ⊎_elim, arith}
use Rattle.std.proofs.lemmas.List.{length-replicate, get_or-replicate}
use Rattle.std.proofs.lemmas.List.Elements.{Contains-append_left, Contains-append_right, Contains-push}
use Rattle.std.proofs.lemmas.Bool.{cases_eq, cases_lt}
use Rattle.claim_core.specs.declared.events.Event.{Event}
use Rattle.claim_core.specs.declared.events.TheConstants.{NONE}
use Rattle.claim_core.specs.Events.{lowered, none_of}
use Rattle.claim_core.proofs.EventLemmas.{length-lowered, lowered_at, lowered_else}
use Rattle.rank_claims.specs.declared.rule.OwnStep.{OwnStep}
use Rattle.rank_claims.specs.declared.rule.OwnStep.TheVariants.{Claimed}
use Rattle.rank_claims.specs.declared.rule.View.{View}
use Rattle.rank_claims.specs.Claims.{HasClaimed}
use Rattle.rank_claims.specs.Rule.{EachIsClaimed, IsClaimed}

-- the claims of the first of two lists of steps, and of the second
pub HasClaimed-left : (steps more : List OwnStep) (e : Event) → HasClaimed steps e → HasClaimed (steps ++ more) e
HasClaimed-left steps more e has = (has.0, Contains-append_left steps more (Claimed e has.0) has.1)

pub HasClaimed-right : (steps more : List OwnStep) (e : Event) → HasClaimed more e → HasClaimed (steps ++ more) e
HasClaimed-right steps more e has = (has.0, Contains-append_right steps more (Claimed e has.0) has.1)

-- a claim that is made
pub HasClaimed-push : (steps : List OwnStep) (e : Event) (found : ℕ) → HasClaimed (steps ++ Claimed e found ∷ []) e
HasClaimed-push steps e found = (found, Contains-push steps (Claimed e found))

-- words that stay, over views that keep their claims
pub claimed_stays : (old new : List View) (words : List ℕ) → ((word rank : ℕ) → IsClaimed old word rank → IsClaimed new word rank) → EachIsClaimed old words → EachIsClaimed new words
claimed_stays old new words keeps each word lt = ⊎_elim (λ (none : get_or words word 0 ≡ NONE). inl none) (λ (has : IsClaimed old word (get_or words word 0)). inr (keeps word (get_or words word 0) has)) (each word lt)

-- a word that is claimed is as it was, or has the rank of the claim
pub claimed_lowered : (old new : List View) (words : List ℕ) (e : Event) → e.word < length words → ((word rank : ℕ) → IsClaimed old word rank → IsClaimed new word rank) → IsClaimed new e.word e.rank
    → EachIsClaimed old words → EachIsClaimed new (lowered words e)
claimed_lowered old new words e here keeps own each word lt =
    let Is : ℕ → Type 0 = λ n. (n ≡ NONE) ⊎ IsClaimed new word n in
    let before : Is (get_or words word 0) = claimed_stays old new words keeps each word (omega (arith, length-lowered words e)) in
    ⊎_elim
    (λ (at : word ≡ e.word).
    let Own : ℕ → Type 0 = λ w. IsClaimed new w e.rank in
    let now : get_or (lowered words e) word 0 ≡ get_or (lowered words e) e.word 0 = ap (λ w. get_or (lowered words e) w 0) at in
    let was : get_or words word 0 ≡ get_or words e.word 0 = ap (λ w. get_or words w 0) at in
    ⊎_elim
    (λ (below : get_or words e.word 0 < e.rank). let same : get_or words word 0 ≡ get_or (lowered words e) word 0 = omega (arith, lowered_at words e here) in subst Is same before)
    (λ (above : e.rank ≤ get_or words e.word 0). let same : e.rank ≡ get_or (lowered words e) word 0 = omega (arith, lowered_at words e here) in subst Is same (inr (subst Own (sym at) own)))
    (cases_lt (get_or words e.word 0) e.rank))
    (λ (ne : word ≢ e.word). subst Is (sym (lowered_else words e word ne)) before)
    (cases_eq word e.word)

-- a new table has no claims
pub claimed_none : (views : List View) (count : ℕ) → EachIsClaimed views (none_of count)
claimed_none views count word lt = inl (get_or-replicate count word NONE 0 (omega (arith, length-replicate count NONE)))
