-- What a stable sort by a number gives is the stable order.
use Rattle.std.proofs.Common.{◌≡◌, ℕ, suc, ◌<◌, ◌≤◌, Bool, true, false, not, cond, ◌&&◌, ◌==◌, nat_lt, List, [], ◌∷◌, length, get_or, refl, sym, ap, ◌∙◌, arith, inl, inr}
use Rattle.std.specs.Prelude.{filter}
use Rattle.std.specs.Ordering.{nat_cmp, is_lt}
use Rattle.std.specs.List.{AllByRecursion}
use Rattle.std.specs.List.Sorted.{IsNonDecreasingBy, IsStableByKey}
use Rattle.std.proofs.lemmas.Bool.{cond-true, cond-false, cases_order, eq-eqb, ne_eqb, cases_Bool, ltb-true, ltb-false}
use Rattle.std.proofs.lemmas.Bool.Decides.{nat_tests}
use Rattle.lk_base.specs.Order.{put_in, stable_order}

-- each number is no greater than those after it
abbrev pub Rises : {X : Type 0} → (X → ℕ) → List X → Type 0
Rises key [] = Unit {0}
Rises key (x ∷ xs) = AllByRecursion (λ y. key x ≤ key y) xs × Rises key xs

-- the elements that tie with z
abbrev like : {X : Type 0} → (X → ℕ) → X → X → Bool
like key z y = key y == key z

pub all_from : {X : Type 0} (P : X → Type 0) (xs : List X) → ((k : ℕ) (d : X) → k < length xs → P (get_or xs k d)) → AllByRecursion P xs
all_from P [] h = tt
all_from P (x ∷ xs) h = (h 0 x (omega arith), all_from P xs (λ k d lt. h (suc k) d (omega arith)))

rises_from : {X : Type 0} (key : X → ℕ) (xs : List X) → IsNonDecreasingBy key xs → Rises key xs
rises_from key [] h = tt
rises_from key (x ∷ xs) h = (
  all_from (λ y. key x ≤ key y) xs (λ k d lt. h 0 (suc k) d (omega arith) (omega arith)),
  rises_from key xs (λ i j d le lt. h (suc i) (suc j) d (omega arith) (omega arith)),
)

all_weaker : {X : Type 0} (key : X → ℕ) (m n : ℕ) (xs : List X) → m ≤ n → AllByRecursion (λ y. n ≤ key y) xs → AllByRecursion (λ y. m ≤ key y) xs
all_weaker key m n [] le h = tt
all_weaker key m n (x ∷ xs) le h = (omega (arith, h.0), all_weaker key m n xs le h.1)

all_put : {X : Type 0} (key : X → ℕ) (m : ℕ) (x : X) (ys : List X) → m ≤ key x → AllByRecursion (λ y. m ≤ key y) ys → AllByRecursion (λ y. m ≤ key y) (put_in key x ys)
all_put key m x [] le h = (le, tt)
all_put key m x (y ∷ ys) le h =
    elim (cases_Bool (nat_lt (key y) (key x))) [
      | inl below ↦ rw (cond-true (nat_lt (key y) (key x)) (y ∷ put_in key x ys) (x ∷ (y ∷ ys)) below) (h.0, all_put key m x ys le h.1)
      | inr no_lt ↦ rw (cond-false (nat_lt (key y) (key x)) (y ∷ put_in key x ys) (x ∷ (y ∷ ys)) no_lt) (le, h)
    ]

rises_put : {X : Type 0} (key : X → ℕ) (x : X) (ys : List X) → Rises key ys → Rises key (put_in key x ys)
rises_put key x [] h = (tt, tt)
rises_put key x (y ∷ ys) h =
    elim (cases_Bool (nat_lt (key y) (key x))) [
      | inl below ↦
          let lt : key y < key x = ltb-true (key y) (key x) below in
          rw (cond-true (nat_lt (key y) (key x)) (y ∷ put_in key x ys) (x ∷ (y ∷ ys)) below)
          (all_put key (key y) x ys (omega arith) h.0, rises_put key x ys h.1)
      | inr no_lt ↦
          let le : key x ≤ key y = ltb-false (key y) (key x) no_lt in
          rw (cond-false (nat_lt (key y) (key x)) (y ∷ put_in key x ys) (x ∷ (y ∷ ys)) no_lt)
          ((le, all_weaker key (key x) (key y) ys le h.0), h)
    ]

pub rises_order : {X : Type 0} (key : X → ℕ) (xs : List X) → Rises key (stable_order key xs)
unfolding stable_order
rises_order key [] = tt
rises_order key (x ∷ xs) = rises_put key x (stable_order key xs) (rises_order key xs)

-- the elements that tie with z stay as they stand
past : {X : Type 0} (a b : Bool) (x y : X) (f g : List X) → (a ≡ true → b ≡ false) → g ≡ cond b (x ∷ f) f →
    cond a (y ∷ g) g ≡ cond b (x ∷ cond a (y ∷ f) f) (cond a (y ∷ f) f)
past true true x y f g apart e = let wrong : true ≡ false = apart refl in cc
past true false x y f g apart e = ap (λ l. y ∷ l) e
past false b x y f g apart e = e

like_put : {X : Type 0} (key : X → ℕ) (z x : X) (ys : List X) → filter (like key z) (put_in key x ys) ≡ filter (like key z) (x ∷ ys)
like_put key z x [] = refl
like_put key z x (y ∷ ys) =
    elim (cases_Bool (nat_lt (key y) (key x))) [
      | inl below ↦
          let lt : key y < key x = ltb-true (key y) (key x) below in
          rw (cond-true (nat_lt (key y) (key x)) (y ∷ put_in key x ys) (x ∷ (y ∷ ys)) below)
          (past (key y == key z) (key x == key z) x y (filter (like key z) ys) (filter (like key z) (put_in key x ys))
          (λ same. grind (arith, nat_tests)) (like_put key z x ys))
      | inr no_lt ↦ rw (cond-false (nat_lt (key y) (key x)) (y ∷ put_in key x ys) (x ∷ (y ∷ ys)) no_lt) refl
    ]

like_order : {X : Type 0} (key : X → ℕ) (z : X) (xs : List X) → filter (like key z) (stable_order key xs) ≡ filter (like key z) xs
unfolding stable_order
like_order key z [] = refl
like_order key z (x ∷ xs) =
    like_put key z x (stable_order key xs) ∙ ap (λ l. cond (key x == key z) (x ∷ l) l) (like_order key z xs)

-- above z nothing ties with it
none_like : {X : Type 0} (key : X → ℕ) (z : X) (n : ℕ) (xs : List X) → key z < n → AllByRecursion (λ y. n ≤ key y) xs → filter (like key z) xs ≡ []
none_like key z n [] lt h = refl
none_like key z n (x ∷ xs) lt h =
    let other : (key x == key z) ≡ false = ne_eqb (key x) (key z) (λ same. absurd (omega (arith, h.0))) in
    cond-false (key x == key z) (x ∷ filter (like key z) xs) (filter (like key z) xs) other ∙ none_like key z n xs lt h.1

pub cons_head : {X : Type 0} (x y : X) (xs ys : List X) → x ∷ xs ≡ y ∷ ys → x ≡ y
cons_head x y xs ys e = cc

pub cons_tail : {X : Type 0} (x y : X) (xs ys : List X) → x ∷ xs ≡ y ∷ ys → xs ≡ ys
cons_tail x y xs ys e = cc

cons_nil : {X : Type 0} {A : Type 0} (x : X) (xs : List X) → x ∷ xs ≡ [] → A
cons_nil x xs e = cc

-- the same prefix taken off leaves the same that ties with z
tail_like : {X : Type 0} (b c : Bool) (x y : X) (f g : List X) → b ≡ c → cond b (x ∷ f) f ≡ cond c (y ∷ g) g → f ≡ g
tail_like true true x y f g same e = cons_tail x y f g e
tail_like true false x y f g same e = cc
tail_like false true x y f g same e = cc
tail_like false false x y f g same e = e

-- two lists that rise and agree on what ties with each element are one
one_order : {X : Type 0} (key : X → ℕ) (xs ys : List X) → Rises key xs → Rises key ys →
    ((z : X) → filter (like key z) xs ≡ filter (like key z) ys) → xs ≡ ys
one_order key [] [] up vp same = refl
one_order key [] (y ∷ ys) up vp same =
    cons_nil y (filter (like key y) ys) (sym (same y ∙ cond-true (key y == key y) _ _ (eq-eqb (key y) (key y) refl)))
one_order key (x ∷ xs) [] up vp same =
    cons_nil x (filter (like key x) xs) (sym (cond-true (key x == key x) _ _ (eq-eqb (key x) (key x) refl)) ∙ same x)
one_order key (x ∷ xs) (y ∷ ys) up vp same =
    elim (cases_order (key x) (key y)) [
      | inl eq ↦
          let here = sym (cond-true (key x == key x) (x ∷ filter (like key x) xs) (filter (like key x) xs) (eq-eqb (key x) (key x) refl))
          ∙ same x ∙ cond-true (key y == key x) (y ∷ filter (like key x) ys) (filter (like key x) ys) (eq-eqb (key y) (key x) (sym eq)) in
          let rest = one_order key xs ys up.1 vp.1 (λ z. tail_like (key x == key z) (key y == key z) x y _ _ (ap (λ n. n == key z) eq) (same z)) in
          let head : x ≡ y = cons_head x y _ _ here in
          ap (λ w. w ∷ xs) head ∙ ap (λ l. y ∷ l) rest
      | inr other ↦ elim other [
        | inl lt ↦
            cons_nil x (filter (like key x) xs)
            (sym (cond-true (key x == key x) (x ∷ filter (like key x) xs) (filter (like key x) xs) (eq-eqb (key x) (key x) refl)) ∙ same x
            ∙ none_like key x (key y) (y ∷ ys) lt (omega arith, vp.0))
        | inr gt ↦
            cons_nil y (filter (like key y) ys)
            (sym (cond-true (key y == key y) (y ∷ filter (like key y) ys) (filter (like key y) ys) (eq-eqb (key y) (key y) refl)) ∙ sym (same y)
            ∙ none_like key y (key x) (x ∷ xs) gt (omega arith, up.0))
      ]
    ]

filter_same : {X : Type 0} (p q : X → Bool) → ((x : X) → p x ≡ q x) → (xs : List X) → filter p xs ≡ filter q xs
filter_same p q same [] = refl
filter_same p q same (x ∷ xs) = ap (λ b. cond b (x ∷ filter p xs) (filter p xs)) (same x) ∙ ap (λ l. cond (q x) (x ∷ l) l) (filter_same p q same xs)

pub tie_is : (a b : ℕ) → (not (is_lt (nat_cmp a b)) && not (is_lt (nat_cmp b a))) ≡ (b == a)
tie_is a b = grind (arith, nat_tests)

-- what a stable sort gives
pub sorted_is : {X : Type 0} (key : X → ℕ) (new old : List X) → IsNonDecreasingBy key new → IsStableByKey key nat_cmp old new → new ≡ stable_order key old
sorted_is key new old up stable =
    one_order key new (stable_order key old) (rises_from key new up) (rises_order key old) (λ z.
    sym (filter_same _ (like key z) (λ y. tie_is (key z) (key y)) new) ∙ stable z
    ∙ filter_same _ (like key z) (λ y. tie_is (key z) (key y)) old ∙ sym (like_order key z old))
