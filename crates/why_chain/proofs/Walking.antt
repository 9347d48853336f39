-- Walks as lists that lead from the start: the number past the last section, which leads to the roots.
use Rattle.std.proofs.Common.{◌≡◌, ℕ, ◌<◌, Bool, true, Option, Some, None, List, [], ◌∷◌, ◌++◌, length, get_or, if◌then◌else◌, option_and_then, All, Contains, refl, sym, ap, ◌∙◌, subst, inl, inr, arith}
use Rattle.std.proofs.lemmas.Bool.{and_from, and_parts, cases_lt, cond-true, eq-eqb, eqb-true, true≢false}
use Rattle.std.proofs.lemmas.List.{get_or_append_left, get_or_at, get_or_default, get_or_past, length-append}
use Rattle.std.proofs.lemmas.List.Elements.{All-contains, All-cons, All-nil}
use Rattle.std.proofs.lemmas.Option.{cond_some, option_and_then_some, same_Some}
use Rattle.lk_base.specs.RelocKinds.{is_among}
use Rattle.lk_base.proofs.Membership.{among_tells}
use Rattle.lk_tables.specs.Reach.{IsClosed, IsReached, ends_at}
use Rattle.why_chain.specs.Visits.{with_start}
use Rattle.why_chain.specs.Walks.{is_walk, leads_to}
use Rattle.why_chain.proofs.Searching.{after}

-- one step: to an end
abbrev pub step_to : (rows : List (List ℕ)) → ℕ → ℕ → Option ℕ
step_to rows s e = if is_among (ends_at rows s) e then Some e else None

pub step_tells : (rows : List (List ℕ)) (s e t : ℕ) → step_to rows s e ≡ Some t → (is_among (ends_at rows s) e ≡ true) × (e ≡ t)
step_tells rows s e t is = cond_some (is_among (ends_at rows s) e) e t is

pub step_there : (rows : List (List ℕ)) (s e : ℕ) → is_among (ends_at rows s) e ≡ true → step_to rows s e ≡ Some e
step_there rows s e is = cond-true (is_among (ends_at rows s) e) (Some e) None is

-- roots and ends are sections
pub record AreSections (roots : List ℕ) (ends : List (List ℕ)) : Type 0 where
  pub roots_low : All (λ r. r < length ends) roots
  pub ends_low : All (All (λ e. e < length ends)) ends

module _ (roots : List ℕ) (ends : List (List ℕ)) where
  pub start_row : ends_at (with_start roots ends) (length ends) ≡ roots
  unfolding with_start
  start_row = get_or_at ends roots [] [] (length ends) refl

  pub own_row : (s : ℕ) → s < length ends → ends_at (with_start roots ends) s ≡ ends_at ends s
  unfolding with_start
  own_row s less = get_or_append_left ends (roots ∷ []) [] s less

  past_row : (s : ℕ) → length ends < s → ends_at (with_start roots ends) s ≡ []
  unfolding with_start
  past_row s less = get_or_past (ends ++ roots ∷ []) s [] (omega (arith, length-append ends (roots ∷ [])))

  module _ (low : AreSections roots ends) where
    pub end_low : (s e : ℕ) → Contains (ends_at (with_start roots ends) s) e → e < length ends
    end_low s e has = elim (cases_lt s (length ends)) [
      | inl less ↦
          let P : List ℕ → Type 0 = λ l. Contains l e in
          All-contains (λ k. k < length ends) (ends_at ends s) e (low.ends_low s [] less) (subst P (own_row s less) has)
      | inr most ↦ elim (cases_lt (length ends) s) [
        | inl past ↦ let P : List ℕ → Type 0 = λ l. Contains l e in let none = subst P (past_row s past) has in absurd (omega (arith, none.1))
        | inr exact ↦
            let same : s ≡ length ends = omega arith in
            let P : List ℕ → Type 0 = λ l. Contains l e in
            All-contains (λ k. k < length ends) roots e low.roots_low (subst P (ap (ends_at (with_start roots ends)) same ∙ start_row) has)
      ]
    ]

    pub rows_low : (s : ℕ) → All (λ e. e < length ends) (ends_at (with_start roots ends) s)
    rows_low s = λ k d less.
        let row = ends_at (with_start roots ends) s in
        end_low s (get_or row k d) (k, less, get_or_default row k (get_or row k d) d less)

    -- what a list leads to from a section, and from the start
    from_section : (target s : ℕ) (w : List ℕ) → s < length ends → after (step_to (with_start roots ends)) s w ≡ Some target → leads_to ends target s w ≡ true
    from_section target s [] less e = eq-eqb s target (same_Some s target e)
    from_section target s (f ∷ w) less e =
        option_and_then_some (λ t. after (step_to (with_start roots ends)) t w) (step_to (with_start roots ends) s f) target e (λ t at rest.
        let step = step_tells (with_start roots ends) s f t at in
        let inside : f < length ends = end_low s f (among_tells (ends_at (with_start roots ends) s) f step.0) in
        and_from (is_among (ends_at ends s) f) (leads_to ends target f w)
        (ap (λ l. is_among l f) (sym (own_row s less)) ∙ step.0)
        (from_section target f w inside (ap (λ x. after (step_to (with_start roots ends)) x w) step.1 ∙ rest)))

    pub from_start : (target : ℕ) (w : List ℕ) → target < length ends → after (step_to (with_start roots ends)) (length ends) w ≡ Some target → is_walk roots ends target w ≡ true
    from_start target [] less e = absurd (omega (arith, same_Some (length ends) target e))
    from_start target (f ∷ w) less e =
        option_and_then_some (λ t. after (step_to (with_start roots ends)) t w) (step_to (with_start roots ends) (length ends) f) target e (λ t at rest.
        let step = step_tells (with_start roots ends) (length ends) f t at in
        let inside : f < length ends = end_low (length ends) f (among_tells (ends_at (with_start roots ends) (length ends)) f step.0) in
        and_from (is_among roots f) (leads_to ends target f w)
        (ap (λ l. is_among l f) (sym start_row) ∙ step.0)
        (from_section target f w inside (ap (λ x. after (step_to (with_start roots ends)) x w) step.1 ∙ rest)))

    -- and the other way round
    to_section : (target s : ℕ) (w : List ℕ) → s < length ends → leads_to ends target s w ≡ true → after (step_to (with_start roots ends)) s w ≡ Some target
    to_section target s [] less e = ap Some (eqb-true s target e)
    to_section target s (f ∷ w) less e =
        let parts = and_parts (is_among (ends_at ends s) f) (leads_to ends target f w) e in
        let among = ap (λ l. is_among l f) (own_row s less) ∙ parts.0 in
        let inside : f < length ends = end_low s f (among_tells (ends_at (with_start roots ends) s) f among) in
        ap (option_and_then (λ t. after (step_to (with_start roots ends)) t w)) (step_there (with_start roots ends) s f among) ∙ to_section target f w inside parts.1

    pub to_start : (target : ℕ) (w : List ℕ) → is_walk roots ends target w ≡ true → after (step_to (with_start roots ends)) (length ends) w ≡ Some target
    to_start target [] e = absurd (true≢false (sym e))
    to_start target (f ∷ w) e =
        let parts = and_parts (is_among roots f) (leads_to ends target f w) e in
        let among = ap (λ l. is_among l f) start_row ∙ parts.0 in
        let inside : f < length ends = end_low (length ends) f (among_tells (ends_at (with_start roots ends) (length ends)) f among) in
        ap (option_and_then (λ t. after (step_to (with_start roots ends)) t w)) (step_there (with_start roots ends) (length ends) f among) ∙ to_section target f w inside parts.1

    -- each number of a list that leads somewhere is a section, and so are those of a walk
    pub numbers_low : (s t : ℕ) (w : List ℕ) → after (step_to (with_start roots ends)) s w ≡ Some t → All (λ k. k < length ends) w
    numbers_low s t [] e = All-nil (λ (k : ℕ). k < length ends)
    numbers_low s t (f ∷ w) e =
        option_and_then_some (λ x. after (step_to (with_start roots ends)) x w) (step_to (with_start roots ends) s f) t e (λ x at rest.
        let step = step_tells (with_start roots ends) s f x at in
        All-cons (λ (k : ℕ). k < length ends) f w (end_low s f (among_tells (ends_at (with_start roots ends) s) f step.0)) (numbers_low x t w rest))

    pub walk_low : (target : ℕ) (w : List ℕ) → is_walk roots ends target w ≡ true → All (λ k. k < length ends) w
    walk_low target w e = numbers_low (length ends) target w (to_start target w e)

  -- what a walk leads to is in each closed set
  leads_reach : (target s : ℕ) (w : List ℕ) (set : ℕ → Bool) → IsClosed roots ends set → set s ≡ true → leads_to ends target s w ≡ true → set target ≡ true
  leads_reach target s [] set closed is e = ap set (sym (eqb-true s target e)) ∙ is
  leads_reach target s (f ∷ w) set closed is e =
      let parts = and_parts (is_among (ends_at ends s) f) (leads_to ends target f w) e in
      leads_reach target f w set closed (closed.followed s f is (among_tells (ends_at ends s) f parts.0)) parts.1

  pub walk_reaches : (target : ℕ) (w : List ℕ) → is_walk roots ends target w ≡ true → IsReached roots ends target
  walk_reaches target [] e = absurd (true≢false (sym e))
  walk_reaches target (f ∷ w) e = λ set closed.
      let parts = and_parts (is_among roots f) (leads_to ends target f w) e in
      leads_reach target f w set closed (closed.rooted f (among_tells roots f parts.0)) parts.1
