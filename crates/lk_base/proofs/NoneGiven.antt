-- Lists that are empty though they are put together of others, or made of elements that give nothing.
use Rattle.std.proofs.Common.{◌≡◌, ℕ, zero, suc, ◌+◌, ◌<◌, ◌≤◌, List, [], ◌∷◌, ◌++◌, flat_map, refl, subst, inl, inr, arith, ap, ◌∙◌, Bool, true, false}
use Rattle.std.specs.List.{range_with_len}
use Rattle.std.proofs.lemmas.Bool.{cases_lt}
use Rattle.std.specs.Prelude.{if◌then◌else◌}

pub left_none : {X : Type 0} (xs ys : List X) → xs ++ ys ≡ [] → xs ≡ []
left_none [] ys none = refl
left_none (x ∷ xs) ys none = cc

pub right_none : {X : Type 0} (xs ys : List X) → xs ++ ys ≡ [] → ys ≡ []
right_none [] ys none = none
right_none (x ∷ xs) ys none = cc

pub none_at : {X : Type 0} (f : ℕ → List X) (count a n : ℕ) → flat_map f (range_with_len a count) ≡ [] → a ≤ n → n < a + count → f n ≡ []
none_at f zero a n none low high = absurd (omega (arith, low, high))
none_at f (suc count) a n none low high = elim (cases_lt a n) [
  | inl lt ↦ none_at f count (a + 1) n (right_none (f a) _ none) (omega (arith, lt)) (omega (arith, high))
  | inr le ↦ let same : a ≡ n = omega (arith, le, low) in subst (λ (k : ℕ). f k ≡ []) same (left_none (f a) _ none)
]

pub flat_none : {X Y : Type 0} (f : X → List Y) (xs : List X) → ((x : X) → f x ≡ []) → flat_map f xs ≡ []
flat_none f [] none = refl
flat_none f (x ∷ xs) none = ap (λ l. l ++ flat_map f xs) (none x) ∙ flat_none f xs none

pub either_none : {X : Type 0} (b : Bool) (xs : List X) → xs ≡ [] → (if b then xs else []) ≡ []
either_none true xs none = none
either_none false xs none = refl
