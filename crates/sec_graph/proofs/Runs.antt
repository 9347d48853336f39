-- The elements with one number, of a list in order of that: they stand between two places.
use Rattle.std.proofs.Common.{◌≡◌, ℕ, ◌+◌, ◌-◌, ◌<◌, ◌≤◌, ◌==◌, Bool, true, false, List, [], ◌∷◌, ◌++◌, length, take, drop, get_or, All, refl, sym, ap, ◌∙◌, arith, inl, inr}
use Rattle.std.specs.Prelude.{filter}
use Rattle.std.specs.Ordering.{nat_cmp}
use Rattle.std.specs.List.Sorted.{IsStableByKey}
use Rattle.std.proofs.lemmas.Bool.{cases_lt, cond-true, cond-false, eq-eqb, ne_eqb}
use Rattle.std.proofs.lemmas.List.{append-nil, get_or-drop, get_or-take, length-drop, length-take, take-append-drop}
use Rattle.std.proofs.lemmas.List.Elements.{All-head, All-tail, filter-append, filter_agree}
use Rattle.lk_base.proofs.StableOrder.{tie_is}
use Rattle.sec_graph.specs.declared.pairs.Pair.{Pair}
use Rattle.sec_graph.specs.Graph.{pairs_from}

none_pass : {X : Type 0} (p : X → Bool) (xs : List X) → All (λ x. p x ≡ false) xs → filter p xs ≡ []
none_pass p [] none = refl
none_pass p (x ∷ xs) none =
    let Q : _ → Type 0 = λ y. p y ≡ false in
    cond-false (p x) (x ∷ filter p xs) (filter p xs) (All-head Q x xs none) ∙ none_pass p xs (All-tail Q x xs none)

all_pass : {X : Type 0} (p : X → Bool) (xs : List X) → All (λ x. p x ≡ true) xs → filter p xs ≡ xs
all_pass p [] all = refl
all_pass p (x ∷ xs) all =
    let Q : _ → Type 0 = λ y. p y ≡ true in
    cond-true (p x) (x ∷ filter p xs) (filter p xs) (All-head Q x xs all) ∙ ap (λ l. x ∷ l) (all_pass p xs (All-tail Q x xs all))

-- the first `from` elements have a smaller number, those before `to` no greater one, and those from there on a greater one
pub record IsBetween {X : Type 0} (n : X → ℕ) (xs : List X) (number from to : ℕ) : Type 0 where
  pub within : to ≤ length xs
  pub first : from ≤ length xs
  pub below : (k : ℕ) (d : X) → k < length xs → k < from → n (get_or xs k d) < number
  pub least : (k : ℕ) (d : X) → k < length xs → from ≤ k → number ≤ n (get_or xs k d)
  pub most : (k : ℕ) (d : X) → k < length xs → k < to → n (get_or xs k d) ≤ number
  pub above : (k : ℕ) (d : X) → k < length xs → to ≤ k → number < n (get_or xs k d)

pub in_order : {X : Type 0} (n : X → ℕ) (xs : List X) (d : X) (number from to : ℕ) → IsBetween n xs number from to → from ≤ to
in_order n xs d number from to is = elim (cases_lt to from) [
  | inl lt ↦
      let first = is.first in
      let low = is.below to d (omega (arith, first, lt)) lt in
      let high = is.above to d (omega (arith, first, lt)) (omega arith) in
      absurd (omega (arith, low, high))
  | inr le ↦ le
]

pub between_is : {X : Type 0} (n : X → ℕ) (xs : List X) (number from to : ℕ) → IsBetween n xs number from to → from ≤ to →
    take (to - from) (drop from xs) ≡ filter (λ x. n x == number) xs
between_is n xs number from to is order =
    let within = is.within in
    let p : _ → Bool = λ x. n x == number in
    let lower = take from xs in
    let own = take (to - from) (drop from xs) in
    let upper = drop (to - from) (drop from xs) in
    let parts : xs ≡ lower ++ (own ++ upper) = sym (ap (λ l. lower ++ l) (take-append-drop (to - from) (drop from xs)) ∙ take-append-drop from xs) in
    let none_below : filter p lower ≡ [] = none_pass p lower (λ k d lt.
    let less : k < from = omega (arith, lt, length-take from xs) in
    let at = get_or-take from xs k d less in
    let low = is.below k d (omega (arith, less)) less in
    ne_eqb _ _ (λ same. absurd (omega (arith, low, same, ap n at)))) in
    let all_own : filter p own ≡ own = all_pass p own (λ k d lt.
    let less : k < to - from = omega (arith, lt, length-take (to - from) (drop from xs)) in
    let at = get_or-take (to - from) (drop from xs) k d less ∙ get_or-drop from xs k d in
    let low = is.least (from + k) d (omega (arith, less)) (omega arith) in
    let high = is.most (from + k) d (omega (arith, less)) (omega (arith, less)) in
    eq-eqb _ _ (omega (arith, low, high, ap n at))) in
    let none_above : filter p upper ≡ [] = none_pass p upper (λ k d lt.
    let less : k < length xs - from - (to - from) = omega (arith, lt, length-drop (to - from) (drop from xs), length-drop from xs) in
    let at = get_or-drop (to - from) (drop from xs) k d ∙ get_or-drop from xs (to - from + k) d in
    let high = is.above (from + (to - from + k)) d (omega (arith, less)) (omega arith) in
    ne_eqb _ _ (λ same. absurd (omega (arith, high, same, ap n at)))) in
    sym (ap (filter p) parts ∙ filter-append p lower (own ++ upper) ∙ ap (λ l. l ++ filter p (own ++ upper)) none_below
    ∙ filter-append p own upper ∙ ap (λ l. l ++ filter p upper) all_own ∙ ap (λ l. own ++ l) none_above ∙ append-nil own)

-- a stable sort leaves those with one number as they stand
pub stable_same : (old new : List Pair) → IsStableByKey (λ (p : Pair). p.from) nat_cmp old new → (section : ℕ) →
    pairs_from section new ≡ pairs_from section old
stable_same old new stable section =
    let z : Pair = record { from = section; to = 0 } in
    sym (filter_agree _ (λ (p : Pair). p.from == section) (λ p. tie_is section p.from) new) ∙ stable z
    ∙ filter_agree _ (λ (p : Pair). p.from == section) (λ p. tie_is section p.from) old
