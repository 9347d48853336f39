-- What a stable sort gives, by any order: the same list as inserting each element before the first that is not less.
use Rattle.std.proofs.Common.{◌≡◌, ℕ, suc, ◌<◌, ◌≤◌, Bool, true, false, not, cond, ◌&&◌, List, [], ◌∷◌, length, map, get_or, refl, sym, ap, ◌∙◌, subst, arith, inl, inr}
use Rattle.std.specs.Prelude.{filter}
use Rattle.std.specs.Cmp.{IsStrictWeakOrder}
use Rattle.std.specs.List.{AllByRecursion}
use Rattle.std.specs.List.Sorted.{IsSortedBy, IsStableBy, ties}
use Rattle.std.proofs.lemmas.Bool.{cond-true, cond-false, cases_Bool}
use Rattle.std.proofs.lemmas.List.Sorted.{sorted_far}
use Rattle.lk_base.proofs.StableOrder.{all_from}

abbrev pub insert : {X : Type 0} → (lt : X → X → Bool) → X → List X → List X
insert lt x [] = x ∷ []
insert lt x (y ∷ ys) = cond (lt y x) (y ∷ insert lt x ys) (x ∷ (y ∷ ys))

abbrev pub insert_all : {X : Type 0} → (lt : X → X → Bool) → List X → List X
insert_all lt [] = []
insert_all lt (x ∷ xs) = insert lt x (insert_all lt xs)

-- none is less than one before it
abbrev Rises : {X : Type 0} → (X → X → Bool) → List X → Type 0
Rises lt [] = Unit {0}
Rises lt (x ∷ xs) = AllByRecursion (λ y. lt y x ≡ false) xs × Rises lt xs

differ : {A : Type 0} (b : Bool) → b ≡ true → b ≡ false → A
differ true is is_not = cc
differ false is is_not = cc

rises_from : {X : Type 0} (lt : X → X → Bool) (xs : List X) → ((i j : ℕ) (d : X) → i ≤ j → j < length xs → lt (get_or xs j d) (get_or xs i d) ≡ false) → Rises lt xs
rises_from lt [] far = tt
rises_from lt (x ∷ xs) far = (
  all_from (λ y. lt y x ≡ false) xs (λ k d less. far 0 (suc k) d (omega arith) (omega arith)),
  rises_from lt xs (λ i j d le less. far (suc i) (suc j) d (omega arith) (omega arith)),
)

all_put : {X : Type 0} (P : X → Type 0) (lt : X → X → Bool) (x : X) (ys : List X) → P x → AllByRecursion P ys → AllByRecursion P (insert lt x ys)
all_put P lt x [] own all = (own, tt)
all_put P lt x (y ∷ ys) own all = by (lt y x) (all_put P lt x ys own all.1)
  where
    by : (b : Bool) → AllByRecursion P (insert lt x ys) → AllByRecursion P (cond b (y ∷ insert lt x ys) (x ∷ (y ∷ ys)))
    by true later = (all.0, later)
    by false later = (own, all)

module _ {X : Type 0} (lt : X → X → Bool) (o : IsStrictWeakOrder lt) where
  itself : (x : X) → lt x x ≡ false
  itself x = elim (cases_Bool (lt x x)) [
    | inl less ↦ o.one_way x x less
    | inr not_less ↦ not_less
  ]

  all_weaker : (x y : X) (ys : List X) → lt y x ≡ false → AllByRecursion (λ z. lt z y ≡ false) ys → AllByRecursion (λ z. lt z x ≡ false) ys
  all_weaker x y [] le all = tt
  all_weaker x y (z ∷ zs) le all = (o.chain z y x all.0 le, all_weaker x y zs le all.1)

  rises_put : (x : X) (ys : List X) → Rises lt ys → Rises lt (insert lt x ys)
  rises_put x [] up = (tt, tt)
  rises_put x (y ∷ ys) up = elim (cases_Bool (lt y x)) [
    | inl below ↦
        rw (cond-true (lt y x) (y ∷ insert lt x ys) (x ∷ (y ∷ ys)) below)
        (all_put (λ z. lt z y ≡ false) lt x ys (o.one_way y x below) up.0, rises_put x ys up.1)
    | inr above ↦
        rw (cond-false (lt y x) (y ∷ insert lt x ys) (x ∷ (y ∷ ys)) above)
        ((above, all_weaker x y ys above up.0), up)
  ]

  rises_all : (xs : List X) → Rises lt (insert_all lt xs)
  rises_all [] = tt
  rises_all (x ∷ xs) = rises_put x (insert_all lt xs) (rises_all xs)

  -- of two that are in order no third ties with both
  not_both : (a b : Bool) → (not a && not b) ≡ true → (a ≡ false) × (b ≡ false)
  not_both true b e = cc
  not_both false true e = cc
  not_both false false e = (refl, refl)

  tied : (a b : Bool) → a ≡ false → b ≡ false → (not a && not b) ≡ true
  tied a b p q = ap (λ x. not x && not b) p ∙ ap (λ x. true && not x) q

  apart : (x y z : X) → lt y x ≡ true → ties lt z y ≡ true → ties lt z x ≡ false
  apart x y z below like = elim (cases_Bool (ties lt z x)) [
    | inl also ↦
        let p = not_both (lt z y) (lt y z) like in
        let q = not_both (lt z x) (lt x z) also in
        differ (lt y x) below (o.chain y z x p.1 q.0)
    | inr other ↦ other
  ]

  past : (a b : Bool) (x y : X) (f g : List X) → (a ≡ true → b ≡ false) → g ≡ cond b (x ∷ f) f →
      cond a (y ∷ g) g ≡ cond b (x ∷ cond a (y ∷ f) f) (cond a (y ∷ f) f)
  past true true x y f g apart e = let wrong : true ≡ false = apart refl in cc
  past true false x y f g apart e = ap (λ l. y ∷ l) e
  past false b x y f g apart e = e

  -- those that tie with z stay as they stand
  like_put : (z x : X) (ys : List X) → filter (ties lt z) (insert lt x ys) ≡ filter (ties lt z) (x ∷ ys)
  like_put z x [] = refl
  like_put z x (y ∷ ys) = elim (cases_Bool (lt y x)) [
    | inl below ↦
        rw (cond-true (lt y x) (y ∷ insert lt x ys) (x ∷ (y ∷ ys)) below)
        (past (ties lt z y) (ties lt z x) x y (filter (ties lt z) ys) (filter (ties lt z) (insert lt x ys)) (apart x y z below) (like_put z x ys))
    | inr above ↦ rw (cond-false (lt y x) (y ∷ insert lt x ys) (x ∷ (y ∷ ys)) above) refl
  ]

  like_all : (z : X) (xs : List X) → filter (ties lt z) (insert_all lt xs) ≡ filter (ties lt z) xs
  like_all z [] = refl
  like_all z (x ∷ xs) = like_put z x (insert_all lt xs) ∙ ap (λ l. cond (ties lt z x) (x ∷ l) l) (like_all z xs)

  -- above z nothing ties with it
  none_like : (z w : X) (ys : List X) → lt z w ≡ true → AllByRecursion (λ y. lt y w ≡ false) ys → filter (ties lt z) ys ≡ []
  none_like z w [] less all = refl
  none_like z w (y ∷ ys) less all =
      let other : ties lt z y ≡ false = elim (cases_Bool (ties lt z y)) [
        | inl also ↦
            let p = not_both (lt z y) (lt y z) also in
            differ (lt z w) less (o.chain z y w p.0 all.0)
        | inr other ↦ other
      ] in
      cond-false (ties lt z y) (y ∷ filter (ties lt z) ys) (filter (ties lt z) ys) other ∙ none_like z w ys less all.1

  like_itself : (x : X) → ties lt x x ≡ true
  like_itself x = tied (lt x x) (lt x x) (itself x) (itself x)

  own_like : (x : X) (xs : List X) → filter (ties lt x) (x ∷ xs) ≡ x ∷ filter (ties lt x) xs
  own_like x xs = cond-true (ties lt x x) (x ∷ filter (ties lt x) xs) (filter (ties lt x) xs) (like_itself x)

  cons_head : (x y : X) (xs ys : List X) → x ∷ xs ≡ y ∷ ys → x ≡ y
  cons_head x y xs ys e = cc

  cons_tail : (x y : X) (xs ys : List X) → x ∷ xs ≡ y ∷ ys → xs ≡ ys
  cons_tail x y xs ys e = cc

  cons_nil : {A : Type 0} (x : X) (xs : List X) → x ∷ xs ≡ [] → A
  cons_nil x xs e = cc

  tail_like : (b : Bool) (x : X) (f g : List X) → cond b (x ∷ f) f ≡ cond b (x ∷ g) g → f ≡ g
  tail_like true x f g e = cons_tail x x f g e
  tail_like false x f g e = e

  -- two lists in order that agree on what ties with each element are one
  one_order : (xs ys : List X) → Rises lt xs → Rises lt ys → ((z : X) → filter (ties lt z) xs ≡ filter (ties lt z) ys) → xs ≡ ys
  one_order [] [] up vp same = refl
  one_order [] (y ∷ ys) up vp same = cons_nil y (filter (ties lt y) ys) (sym (same y ∙ own_like y ys))
  one_order (x ∷ xs) [] up vp same = cons_nil x (filter (ties lt x) xs) (sym (own_like x xs) ∙ same x)
  one_order (x ∷ xs) (y ∷ ys) up vp same = elim (cases_Bool (lt x y)) [
    | inl less ↦ cons_nil x (filter (ties lt x) xs) (sym (own_like x xs) ∙ same x ∙ none_like x y (y ∷ ys) less (itself y, vp.0))
    | inr at_least ↦ elim (cases_Bool (lt y x)) [
      | inl more ↦ cons_nil y (filter (ties lt y) ys) (sym (own_like y ys) ∙ sym (same y) ∙ none_like y x (x ∷ xs) more (itself x, up.0))
      | inr at_most ↦
          let here = sym (own_like x xs) ∙ same x ∙ cond-true (ties lt x y) (y ∷ filter (ties lt x) ys) (filter (ties lt x) ys) (tied (lt x y) (lt y x) at_least at_most) in
          let head : x ≡ y = cons_head x y (filter (ties lt x) xs) (filter (ties lt x) ys) here in
          let each : (z : X) → filter (ties lt z) xs ≡ filter (ties lt z) ys = λ z.
          let P : X → Type 0 = λ w. filter (ties lt z) (x ∷ xs) ≡ filter (ties lt z) (w ∷ ys) in
          tail_like (ties lt z x) x (filter (ties lt z) xs) (filter (ties lt z) ys) (subst P (sym head) (same z)) in
          ap (λ w. w ∷ xs) head ∙ ap (λ l. y ∷ l) (one_order xs ys up.1 vp.1 each)
    ]
  ]

  pub sorted_is : (new old : List X) → IsSortedBy lt new → IsStableBy lt old new → new ≡ insert_all lt old
  sorted_is new old up stable =
      one_order new (insert_all lt old) (rises_from lt new (λ i j d le less. sorted_far lt o new up i j d le less)) (rises_all old)
      (λ z. stable z ∙ sym (like_all z old))

-- of what is shown of the elements
pub shown_put : {X Y : Type 0} (v : X → Y) (lt : X → X → Bool) (less : Y → Y → Bool) → ((x y : X) → lt x y ≡ less (v x) (v y)) → (x : X) (ys : List X) →
    map v (insert lt x ys) ≡ insert less (v x) (map v ys)
shown_put v lt less same x [] = refl
shown_put v lt less same x (y ∷ ys) = by (lt y x) (less (v y) (v x)) (same y x) (shown_put v lt less same x ys)
  where
    by : (a b : Bool) → a ≡ b → map v (insert lt x ys) ≡ insert less (v x) (map v ys)
        → map v (cond a (y ∷ insert lt x ys) (x ∷ (y ∷ ys))) ≡ cond b (v y ∷ insert less (v x) (map v ys)) (v x ∷ (v y ∷ map v ys))
    by true true e later = ap (λ l. v y ∷ l) later
    by true false e later = cc
    by false true e later = cc
    by false false e later = refl

pub shown_all : {X Y : Type 0} (v : X → Y) (lt : X → X → Bool) (less : Y → Y → Bool) → ((x y : X) → lt x y ≡ less (v x) (v y)) → (xs : List X) →
    map v (insert_all lt xs) ≡ insert_all less (map v xs)
shown_all v lt less same [] = refl
shown_all v lt less same (x ∷ xs) = shown_put v lt less same x (insert_all lt xs) ∙ ap (insert less (v x)) (shown_all v lt less same xs)
