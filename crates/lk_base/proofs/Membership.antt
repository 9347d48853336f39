-- What stands in a list, and in one that was made of others.
use Rattle.std.proofs.Common.{◌≡◌, ◌⊎◌, ℕ, zero, suc, ◌<◌, Bool, true, false, cond, List, [], ◌∷◌, map, flat_map, Contains, refl, sym, ap, ◌∙◌, subst, ⊎_elim, inl, inr, arith, ◌++◌, ◌||◌, ◌==◌}
use Rattle.std.specs.List.{filter, list_any, range_with_len}
use Rattle.std.proofs.lemmas.Bool.{eq-eqb, eqb-true, or_cases, or_left, or_right, true≢false}
use Rattle.std.proofs.lemmas.List.{get_or-map, length-map}
use Rattle.std.proofs.lemmas.List.Elements.{Contains-append_left, Contains-append_right, Contains-append_cases, All-nil, All-cons, All-contains}
use Rattle.std.proofs.lemmas.List.Folds.{list_any-append, list_any_at}
use Rattle.std.proofs.lemmas.List.FromFn.{length-range_with_len, get_or-range_with_len}
use Rattle.lk_base.specs.RelocKinds.{is_among}

pub in_tail : {X : Type 0} (x y : X) (xs : List X) → Contains xs y → Contains (x ∷ xs) y
in_tail x y xs has = Contains-append_right (x ∷ []) xs y has

pub head_or_tail : {X : Type 0} (x y : X) (xs : List X) → Contains (x ∷ xs) y → (x ≡ y) ⊎ Contains xs y
head_or_tail x y xs (zero, lt, is) = inl is
head_or_tail x y xs (suc k, lt, is) = inr (k, omega arith, is)

-- a map
pub in_map : {X Y : Type 0} (f : X → Y) (xs : List X) (x : X) → Contains xs x → Contains (map f xs) (f x)
in_map f xs x (k, lt, is) = (k, omega (arith, lt, length-map xs f), get_or-map f xs k x (f x) lt ∙ ap f is)

pub record From {X Y : Type 0} (f : X → Y) (xs : List X) (y : Y) : Type 0 where
  pub x : X
  pub listed : Contains xs x
  pub is : f x ≡ y

pub from_map : {X Y : Type 0} (f : X → Y) (xs : List X) (y : Y) → Contains (map f xs) y → From f xs y
from_map f [] y (k, lt, is) = absurd (omega arith)
from_map f (x ∷ xs) y has = ⊎_elim
    (λ (here : f x ≡ y). record { x = x; listed = (0, omega arith, refl); is = here })
    (λ (later : Contains (map f xs) y). let rest = from_map f xs y later in record { x = rest.x; listed = in_tail x rest.x xs rest.listed; is = rest.is })
    (head_or_tail (f x) y (map f xs) has)

-- a filter
in_cond : {X : Type 0} (b : Bool) (x y : X) (xs ys : List X) → b ≡ true → x ≡ y → Contains (cond b (x ∷ xs) ys) y
in_cond true x y xs ys is e = (0, omega arith, e)
in_cond false x y xs ys is e = absurd cc

cond_in : {X : Type 0} (b : Bool) (x y : X) (xs : List X) → Contains xs y → Contains (cond b (x ∷ xs) xs) y
cond_in true x y xs has = in_tail x y xs has
cond_in false x y xs has = has

pub in_filter : {X : Type 0} (p : X → Bool) (xs : List X) (x : X) → Contains xs x → p x ≡ true → Contains (filter p xs) x
in_filter p [] x (k, lt, is) passes = absurd (omega arith)
in_filter p (y ∷ xs) x has passes = ⊎_elim
    (λ (here : y ≡ x). in_cond (p y) y x (filter p xs) (filter p xs) (ap p here ∙ passes) here)
    (λ (later : Contains xs x). cond_in (p y) y x (filter p xs) (in_filter p xs x later passes))
    (head_or_tail y x xs has)

cond_from : {X : Type 0} (b : Bool) (x y : X) (xs : List X) → Contains (cond b (x ∷ xs) xs) y → Contains (x ∷ xs) y
cond_from true x y xs has = has
cond_from false x y xs has = in_tail x y xs has

pub from_filter : {X : Type 0} (p : X → Bool) (xs : List X) (x : X) → Contains (filter p xs) x → Contains xs x
from_filter p [] x has = has
from_filter p (y ∷ xs) x has = ⊎_elim
    (λ (here : y ≡ x). (0, omega arith, here))
    (λ (later : Contains (filter p xs) x). in_tail y x xs (from_filter p xs x later))
    (head_or_tail y x (filter p xs) (cond_from (p y) y x (filter p xs) has))

-- lists one after the other
pub in_flat : {X Y : Type 0} (h : X → List Y) (xs : List X) (x : X) (y : Y) → Contains xs x → Contains (h x) y → Contains (flat_map h xs) y
in_flat h [] x y (k, lt, is) has = absurd (omega arith)
in_flat {X} {Y} h (z ∷ xs) x y at has = ⊎_elim
    (λ (here : z ≡ x). let P : X → Type 0 = λ u. Contains (h u) y in Contains-append_left (h z) (flat_map h xs) y (subst P (sym here) has))
    (λ (later : Contains xs x). Contains-append_right (h z) (flat_map h xs) y (in_flat h xs x y later has))
    (head_or_tail z x xs at)

pub record FromPart {X Y : Type 0} (h : X → List Y) (xs : List X) (y : Y) : Type 0 where
  pub x : X
  pub listed : Contains xs x
  pub part : Contains (h x) y

pub from_flat : {X Y : Type 0} (h : X → List Y) (xs : List X) (y : Y) → Contains (flat_map h xs) y → FromPart h xs y
from_flat h [] y (k, lt, is) = absurd (omega arith)
from_flat h (x ∷ xs) y has = ⊎_elim
    (λ (here : Contains (h x) y). record { x = x; listed = (0, omega arith, refl); part = here })
    (λ (later : Contains (flat_map h xs) y). let rest = from_flat h xs y later in record { x = rest.x; listed = in_tail x rest.x xs rest.listed; part = rest.part })
    (Contains-append_cases (h x) (flat_map h xs) y has)

-- numbers
pub in_range : (n a : ℕ) → a < n → Contains (range_with_len 0 n) a
in_range n a lt = let is = get_or-range_with_len 0 n a a lt in (a, omega (arith, lt, length-range_with_len 0 n), omega (arith, is))

pub from_range : (n a : ℕ) → Contains (range_with_len 0 n) a → a < n
from_range n a (k, lt, is) =
    let less : k < n = omega (arith, lt, length-range_with_len 0 n) in
    let at = get_or-range_with_len 0 n k a less in omega (arith, at, is, less)

-- what stands in a list of one
pub only_one : {X : Type 0} (z x : X) → Contains (z ∷ []) x → z ≡ x
only_one {X} z x has =
    let P : X → Type 0 = λ k. z ≡ k in
    All-contains P (z ∷ []) x (All-cons P z [] refl (All-nil P)) has

pub any_from : {X : Type 0} (p : X → Bool) (xs : List X) (x : X) → Contains xs x → p x ≡ true → list_any p xs ≡ true
any_from p xs x has is = list_any_at p xs has.0 x has.1 (ap p has.2 ∙ is)

-- one of two lists has it
pub any_here : {X : Type 0} (test : X → Bool) (xs ys : List X) → list_any test xs ≡ true → list_any test (xs ++ ys) ≡ true
any_here test xs ys is = list_any-append test xs ys ∙ or_left (list_any test xs) (list_any test ys) is

pub any_later : {X : Type 0} (test : X → Bool) (xs ys : List X) → list_any test ys ≡ true → list_any test (xs ++ ys) ≡ true
any_later test xs ys is = list_any-append test xs ys ∙ or_right (list_any test xs) (list_any test ys) is

pub any_through : {X Y : Type 0} (p : Y → Bool) (view : X → Y) (xs : List X) → list_any p (map view xs) ≡ list_any (λ x. p (view x)) xs
any_through p view [] = refl
any_through p view (x ∷ xs) = ap (λ b. p (view x) || b) (any_through p view xs)

pub among_tells : (xs : List ℕ) (x : ℕ) → is_among xs x ≡ true → Contains xs x
among_tells [] x e = absurd (true≢false (sym e))
among_tells (y ∷ xs) x e = elim (or_cases (y == x) (is_among xs x) e) [
  | inl here ↦ (0, omega arith, eqb-true y x here)
  | inr later ↦ in_tail y x xs (among_tells xs x later)
]

pub among_has : (xs : List ℕ) (x : ℕ) → Contains xs x → is_among xs x ≡ true
among_has [] x has = absurd (omega (arith, has.1))
among_has (y ∷ xs) x has = elim (head_or_tail y x xs has) [
  | inl here ↦ or_left (y == x) (is_among xs x) (eq-eqb y x here)
  | inr later ↦ or_right (y == x) (is_among xs x) (among_has xs x later)
]
