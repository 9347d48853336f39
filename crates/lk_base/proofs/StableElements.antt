-- What the stable order keeps: how many elements there are, and what each of them is.
use Rattle.std.proofs.Common.{◌≡◌, ℕ, ◌+◌, nat_lt, Bool, true, false, ◌||◌, if◌then◌else◌, List, [], ◌∷◌, length, All, refl, ap, ◌∙◌, arith}
use Rattle.std.specs.List.{AllByRecursion, list_any}
use Rattle.std.proofs.lemmas.List.Elements.{All-nil, All-head, All-tail, All-cons, All-from_recursion, recursion_from_All}
use Rattle.lk_base.specs.Order.{put_in, stable_order}

all_put_in : {X : Type 0} (P : X → Type 0) (key : X → ℕ) (x : X) (ys : List X) → P x → All P ys → All P (put_in key x ys)
all_put_in P key x [] one rest = All-cons P x [] one (All-nil P)
all_put_in P key x (y ∷ ys) one rest = by (nat_lt (key y) (key x)) (all_put_in P key x ys one (All-tail P y ys rest))
  where
    by : (b : Bool) → All P (put_in key x ys) → All P (if b then y ∷ put_in key x ys else x ∷ (y ∷ ys))
    by true later = All-cons P y (put_in key x ys) (All-head P y ys rest) later
    by false later = All-cons P x (y ∷ ys) one rest

pub all_stable : {X : Type 0} (P : X → Type 0) (key : X → ℕ) (xs : List X) → All P xs → All P (stable_order key xs)
unfolding stable_order
all_stable P key [] all = all
all_stable P key (x ∷ xs) all = all_put_in P key x (stable_order key xs) (All-head P x xs all) (all_stable P key xs (All-tail P x xs all))

-- the same of a fact by recursion
pub all_order : {X : Type 0} (P : X → Type 0) (key : X → ℕ) (xs : List X) → AllByRecursion P xs → AllByRecursion P (stable_order key xs)
all_order P key xs all = recursion_from_All P (stable_order key xs) (all_stable P key xs (All-from_recursion P xs all))

length_put_in : {X : Type 0} (key : X → ℕ) (x : X) (ys : List X) → length (put_in key x ys) ≡ length ys + 1
length_put_in key x [] = refl
length_put_in key x (y ∷ ys) = by (nat_lt (key y) (key x)) (length_put_in key x ys)
  where
    by : (b : Bool) → length (put_in key x ys) ≡ length ys + 1 → length (if b then y ∷ put_in key x ys else x ∷ (y ∷ ys)) ≡ length (y ∷ ys) + 1
    by true later = omega arith
    by false later = omega arith

pub length_stable : {X : Type 0} (key : X → ℕ) (xs : List X) → length (stable_order key xs) ≡ length xs
unfolding stable_order
length_stable key [] = refl
length_stable key (x ∷ xs) = omega (arith, length_put_in key x (stable_order key xs), length_stable key xs)

-- whether one of them passes a test
swap : (a b c : Bool) → (a || (b || c)) ≡ (b || (a || c))
swap true true c = refl
swap true false c = refl
swap false true c = refl
swap false false c = refl

any_put_in : {X : Type 0} (test : X → Bool) (key : X → ℕ) (x : X) (ys : List X) → list_any test (put_in key x ys) ≡ (test x || list_any test ys)
any_put_in test key x [] = refl
any_put_in test key x (y ∷ ys) = by (nat_lt (key y) (key x)) (any_put_in test key x ys)
  where
    by : (b : Bool) → list_any test (put_in key x ys) ≡ (test x || list_any test ys)
        → list_any test (if b then y ∷ put_in key x ys else x ∷ (y ∷ ys)) ≡ (test x || (test y || list_any test ys))
    by true later = ap (λ b. test y || b) later ∙ swap (test y) (test x) (list_any test ys)
    by false later = refl

pub any_stable : {X : Type 0} (test : X → Bool) (key : X → ℕ) (xs : List X) → list_any test (stable_order key xs) ≡ list_any test xs
unfolding stable_order
any_stable test key [] = refl
any_stable test key (x ∷ xs) = any_put_in test key x (stable_order key xs) ∙ ap (λ b. test x || b) (any_stable test key xs)
