-- Lists of which each element stands in a relation to each later one; the stable order keeps it where keys tie. And a sum in two parts.
use Rattle.std.proofs.Common.{◌≡◌, ℕ, zero, suc, ◌+◌, ◌<◌, ◌≤◌, ◌⊎◌, Bool, true, false, if◌then◌else◌, List, [], ◌∷◌, ◌++◌, length, get_or, refl, ap, arith, inl, inr, nat_lt}
use Rattle.std.specs.Prelude.{All}
use Rattle.std.specs.List.{range_with_len, sum_by}
use Rattle.std.proofs.lemmas.Bool.{cases_lt, ltb-true}
use Rattle.std.proofs.lemmas.Bool.Decides.{nat_tests}
use Rattle.std.proofs.lemmas.List.Elements.{All-nil, All-head, All-tail, All-cons, All-append}
use Rattle.std.proofs.lemmas.List.Sums.{sum_by-cons}
use Rattle.lk_base.specs.Order.{put_in, stable_order}

abbrev pub Pairs : {X : Type 0} → (X → X → Type 0) → List X → Type 0
Pairs R [] = Unit {0}
Pairs R (x ∷ xs) = All (R x) xs × Pairs R xs

pub pair_at : {X : Type 0} (R : X → X → Type 0) (xs : List X) (i j : ℕ) (d : X) → Pairs R xs → i < j → j < length xs → R (get_or xs i d) (get_or xs j d)
pair_at R [] i j d is less lt = absurd (omega (arith, lt))
pair_at R (x ∷ xs) i zero d is less lt = absurd (omega (arith, less))
pair_at R (x ∷ xs) zero (suc j) d is less lt = is.0 j d (omega (arith, lt))
pair_at R (x ∷ xs) (suc i) (suc j) d is less lt = pair_at R xs i j d is.1 (omega (arith, less)) (omega (arith, lt))

pub pairs_append : {X : Type 0} (R : X → X → Type 0) (xs ys : List X) → Pairs R xs → Pairs R ys → All (λ x. All (R x) ys) xs → Pairs R (xs ++ ys)
pairs_append R [] ys one other across = other
pairs_append R (x ∷ xs) ys one other across =
    (All-append (R x) xs ys one.0 (All-head (λ e. All (R e) ys) x xs across), pairs_append R xs ys one.1 other (All-tail (λ e. All (R e) ys) x xs across))

-- one is before another in the order by a key, with ties as they stood
abbrev pub Later : {X : Type 0} → (X → ℕ) → (X → X → Type 0) → X → X → Type 0
Later key R a b = (key a < key b) ⊎ ((key a ≡ key b) × R a b)

all_put : {X : Type 0} (P : X → Type 0) (key : X → ℕ) (x : X) (ys : List X) → P x → All P ys → All P (put_in key x ys)
all_put P key x [] one rest = All-cons P x [] one (All-nil P)
all_put P key x (y ∷ ys) one rest = by (nat_lt (key y) (key x)) (all_put P key x ys one (All-tail P y ys rest))
  where
    by : (b : Bool) → All P (put_in key x ys) → All P (if b then y ∷ put_in key x ys else x ∷ (y ∷ ys))
    by true later = All-cons P y (put_in key x ys) (All-head P y ys rest) later
    by false later = All-cons P x (y ∷ ys) one rest

not_later : {X : Type 0} (key : X → ℕ) (R : X → X → Type 0) (x y e : X) → key x ≤ key y → Later key R y e → R x e → Later key R x e
not_later key R x y e le is own = elim (cases_lt (key x) (key e)) [
  | inl less ↦ inl less
  | inr upto ↦ elim is [ inl up ↦ absurd (omega (arith, le, up, upto)) | inr (same, r) ↦ inr (omega (arith, le, same, upto), own) ]
]

put_pairs : {X : Type 0} (key : X → ℕ) (R : X → X → Type 0) (x : X) (ys : List X) → All (R x) ys → Pairs (Later key R) ys → Pairs (Later key R) (put_in key x ys)
put_pairs key R x [] all is = (All-nil (Later key R x), tt)
put_pairs key R x (y ∷ ys) all is = by (nat_lt (key y) (key x)) refl (put_pairs key R x ys (All-tail (R x) y ys all) is.1)
  where
    by : (b : Bool) → nat_lt (key y) (key x) ≡ b → Pairs (Later key R) (put_in key x ys) → Pairs (Later key R) (if b then y ∷ put_in key x ys else x ∷ (y ∷ ys))
    by true below rest = (all_put (Later key R y) key x ys (inl (ltb-true (key y) (key x) below)) is.0, rest)
    by false above rest =
        let le : key x ≤ key y = grind (arith, nat_tests, above) in
        let head : Later key R x y = elim (cases_lt (key x) (key y)) [
          | inl less ↦ inl less
          | inr upto ↦ inr (omega (arith, le, upto), All-head (R x) y ys all)
        ] in
        (All-cons (Later key R x) y ys head (λ k d lt. not_later key R x y (get_or ys k d) le (is.0 k d lt) (All-tail (R x) y ys all k d lt)), is)

all_stable : {X : Type 0} (P : X → Type 0) (key : X → ℕ) (xs : List X) → All P xs → All P (stable_order key xs)
unfolding stable_order
all_stable P key [] all = all
all_stable P key (x ∷ xs) all = all_put P key x (stable_order key xs) (All-head P x xs all) (all_stable P key xs (All-tail P x xs all))

pub pairs_order : {X : Type 0} (key : X → ℕ) (R : X → X → Type 0) (xs : List X) → Pairs R xs → Pairs (Later key R) (stable_order key xs)
unfolding stable_order
pairs_order key R [] is = tt
pairs_order key R (x ∷ xs) is = put_pairs key R x (stable_order key xs) (all_stable (R x) key xs is.0) (pairs_order key R xs is.1)

-- sums over numbers one after the other
pub sum_split : (f : ℕ → ℕ) (a m n : ℕ) → sum_by f (range_with_len a (m + n)) ≡ sum_by f (range_with_len a m) + sum_by f (range_with_len (a + m) n)
sum_split f a zero n =
    let e : zero + n ≡ n = omega arith in
    let g : a + zero ≡ a = omega arith in
    omega (arith, ap (λ k. sum_by f (range_with_len a k)) e, ap (λ k. sum_by f (range_with_len k n)) g)
sum_split f a (suc m) n =
    let e : suc m + n ≡ suc (m + n) = omega arith in
    let g : (a + 1) + m ≡ a + suc m = omega arith in
    omega (
      arith,
      ap (λ k. sum_by f (range_with_len a k)) e,
      ap (λ k. sum_by f (range_with_len k n)) g,
      sum_by-cons f a (range_with_len (a + 1) (m + n)),
      sum_by-cons f a (range_with_len (a + 1) m),
      sum_split f (a + 1) m n,
    )
