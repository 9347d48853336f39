-- What holds of each element of lists that are put one after the other.
use Rattle.std.proofs.Common.{◌≡◌, ℕ, zero, suc, ◌+◌, ◌<◌, Bool, true, false, List, [], ◌∷◌, ◌++◌, map, flat_map, All, Contains, refl, arith}
use Rattle.std.specs.Prelude.{filter, if◌then◌else◌}
use Rattle.std.specs.List.{range_with_len}
use Rattle.std.proofs.lemmas.List.Elements.{All-nil, All-cons, All-head, All-tail, All-append, All-contains, All-contains_itself, All-weaker}

pub all_left : {X : Type 0} (P : X → Type 0) (xs ys : List X) → All P (xs ++ ys) → All P xs
all_left P [] ys all = All-nil P
all_left P (x ∷ xs) ys all = All-cons P x xs (All-head P x (xs ++ ys) all) (all_left P xs ys (All-tail P x (xs ++ ys) all))

pub all_right : {X : Type 0} (P : X → Type 0) (xs ys : List X) → All P (xs ++ ys) → All P ys
all_right P [] ys all = all
all_right P (x ∷ xs) ys all = all_right P xs ys (All-tail P x (xs ++ ys) all)

pub flat_all : {X Y : Type 0} (P : Y → Type 0) (g : X → List Y) (xs : List X) → All (λ x. All P (g x)) xs → All P (flat_map g xs)
flat_all P g [] all = All-nil P
flat_all P g (x ∷ xs) all =
    let Q : _ → Type 0 = λ x. All P (g x) in
    All-append P (g x) (flat_map g xs) (All-head Q x xs all) (flat_all P g xs (All-tail Q x xs all))

pub flat_parts : {X Y : Type 0} (P : Y → Type 0) (g : X → List Y) (xs : List X) → All P (flat_map g xs) → All (λ x. All P (g x)) xs
flat_parts P g [] all = All-nil (λ x. All P (g x))
flat_parts P g (x ∷ xs) all =
    All-cons (λ x. All P (g x)) x xs (all_left P (g x) (flat_map g xs) all) (flat_parts P g xs (all_right P (g x) (flat_map g xs) all))

pub each_of : {X Y : Type 0} (P : Y → Type 0) (g : X → List Y) (xs : List X) → ((x : X) → Contains xs x → All P (g x)) → All P (flat_map g xs)
each_of P g xs each = flat_all P g xs (All-weaker (Contains xs) (λ x. All P (g x)) each xs (All-contains_itself xs))

pub part_of : {X Y : Type 0} (P : Y → Type 0) (g : X → List Y) (xs : List X) (x : X) → All P (flat_map g xs) → Contains xs x → All P (g x)
part_of P g xs x all has = All-contains (λ x. All P (g x)) xs x (flat_parts P g xs all) has

pub map_all : {X Y : Type 0} (P : Y → Type 0) (g : X → Y) (xs : List X) → All P (map g xs) → All (λ x. P (g x)) xs
map_all P g [] all = All-nil (λ x. P (g x))
map_all P g (x ∷ xs) all = All-cons (λ x. P (g x)) x xs (All-head P (g x) (map g xs) all) (map_all P g xs (All-tail P (g x) (map g xs) all))

pub head_if : {X : Type 0} (P : X → Type 0) (d : Bool) (x : X) → d ≡ true → All P (if d then x ∷ [] else []) → P x
head_if P true x is all = All-head P x [] all
head_if P false x is all = let no : ⊥ = cc in absurd no

pub all_if : {X : Type 0} (P : X → Type 0) (d : Bool) (xs : List X) → d ≡ true → All P (if d then xs else []) → All P xs
all_if P true xs is all = all
all_if P false xs is all = let no : ⊥ = cc in absurd no

-- of the elements of a range that pass, and of one of these
pub each_passed : (P : ℕ → Type 0) (p : ℕ → Bool) (from n : ℕ) → ((k : ℕ) → k < from + n → p k ≡ true → P k) → All P (filter p (range_with_len from n))
each_passed P p from zero each = All-nil P
each_passed P p from (suc n) each =
    one_of (p from) (each from (omega arith)) (each_passed P p (from + 1) n (λ k lt. each k (omega (arith, lt))))
  where
    one_of : (d : Bool) → (d ≡ true → P from) → All P (filter p (range_with_len (from + 1) n)) →
        All P (if d then from ∷ filter p (range_with_len (from + 1) n) else filter p (range_with_len (from + 1) n))
    one_of true here later = All-cons P from (filter p (range_with_len (from + 1) n)) (here refl) later
    one_of false here later = later

pub one_passed : (P : ℕ → Type 0) (p : ℕ → Bool) (xs : List ℕ) (x : ℕ) → All P (filter p xs) → Contains xs x → p x ≡ true → P x
one_passed P p xs x all has is = All-contains (λ y. p y ≡ true → P y) xs x (passed xs all) has is
  where
    one_more : (d : Bool) (y : ℕ) (ys : List ℕ) → All P (if d then y ∷ ys else ys) → ((d ≡ true → P y) × All P ys)
    one_more true y ys all = (λ _. All-head P y ys all, All-tail P y ys all)
    one_more false y ys all = (λ yes. let no : ⊥ = cc in absurd no, all)

    passed : (xs : List ℕ) → All P (filter p xs) → All (λ y. p y ≡ true → P y) xs
    passed [] all = All-nil (λ y. p y ≡ true → P y)
    passed (y ∷ ys) all =
        let more = one_more (p y) y (filter p ys) all in
        All-cons (λ y. p y ≡ true → P y) y ys more.0 (passed ys more.1)
