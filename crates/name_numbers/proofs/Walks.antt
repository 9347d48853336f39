-- Lists that loops over numbers collect.
use Rattle.std.proofs.Common.{◌≡◌, ℕ, zero, suc, ◌+◌, ◌<◌, ◌≤◌, Bool, true, false, if◌then◌else◌, List, [], ◌∷◌, ◌++◌, map, All, Contains, refl, sym, ap, ◌∙◌, subst, ⊎_elim, arith, append_assoc}
use Rattle.std.specs.Prelude.{flat_map}
use Rattle.std.specs.List.{range_with_len}
use Rattle.std.proofs.lemmas.List.{flat_map_more, append-nil}
use Rattle.std.proofs.lemmas.List.FromFn.{map-range_with_len_more}
use Rattle.std.proofs.lemmas.List.Elements.{All-nil, All-append, Contains-append_left, Contains-append_right}
use Rattle.std.proofs.Math.Nat.{eq-or-lt_of_le}
use Rattle.lk_base.proofs.Loops.{range_more}

-- what a loop has collected: one number more
pub walk_more : {X : Type 0} (g : ℕ → List X) (bs old new : List X) (i : ℕ) → old ≡ bs ++ flat_map g (range_with_len 0 i) → new ≡ old ++ g i → new ≡ bs ++ flat_map g (range_with_len 0 (i + 1))
walk_more g bs old new i before push =
    push ∙ ap (λ xs. xs ++ g i) before ∙ flat_map_more g bs (range_with_len 0 i) i ∙ ap (λ r. bs ++ flat_map g r) (sym (range_more i))

pub walk_skip : {X : Type 0} (g : ℕ → List X) (bs old : List X) (i : ℕ) → old ≡ bs ++ flat_map g (range_with_len 0 i) → g i ≡ [] → old ≡ bs ++ flat_map g (range_with_len 0 (i + 1))
walk_skip g bs old i before none = walk_more g bs old old i before (sym (ap (λ xs. old ++ xs) none ∙ append-nil old))

pub walk_push : {X : Type 0} (g : ℕ → List X) (bs old new : List X) (x : X) (i : ℕ) → old ≡ bs ++ flat_map g (range_with_len 0 i) → new ≡ old ++ x ∷ [] → g i ≡ x ∷ [] → new ≡ bs ++ flat_map g (range_with_len 0 (i + 1))
walk_push g bs old new x i before push one = walk_more g bs old new i before (push ∙ ap (λ xs. old ++ xs) (sym one))

pub walk_map : {X : Type 0} (g : ℕ → X) (bs old new : List X) (x : X) (i : ℕ) → old ≡ bs ++ map g (range_with_len 0 i) → new ≡ old ++ x ∷ [] → x ≡ g i → new ≡ bs ++ map g (range_with_len 0 (i + 1))
walk_map g bs old new x i before push is =
    push ∙ ap (λ xs. xs ++ x ∷ []) before ∙ append_assoc bs (map g (range_with_len 0 i)) (x ∷ [])
    ∙ ap (λ xs. bs ++ xs) (ap (λ y. map g (range_with_len 0 i) ++ y ∷ []) is ∙ sym (map-range_with_len_more g 0 i i (omega arith)))

-- what holds of each, and what stands in one
pub all_range : {X : Type 0} (P : X → Type 0) (g : ℕ → List X) (a n : ℕ) → ((j : ℕ) → a ≤ j → j < a + n → All P (g j)) → All P (flat_map g (range_with_len a n))
all_range P g a zero each = All-nil P
all_range P g a (suc n) each =
    All-append P (g a) (flat_map g (range_with_len (a + 1) n)) (each a (omega arith) (omega arith))
    (all_range P g (a + 1) n (λ j low high. each j (omega arith) (omega arith)))

in_later : {X : Type 0} (g : ℕ → List X) (a n j : ℕ) (x : X) → (a + 1 ≤ j → Contains (flat_map g (range_with_len (a + 1) n)) x) → a ≤ j → Contains (g j) x → Contains (flat_map g (range_with_len a (suc n))) x
in_later g a n j x later low has = ⊎_elim
    (λ (same : a ≡ j). let P : ℕ → Type 0 = λ k. Contains (g k) x in Contains-append_left (g a) (flat_map g (range_with_len (a + 1) n)) x (subst P (sym same) has))
    (λ (lt : a < j). Contains-append_right (g a) (flat_map g (range_with_len (a + 1) n)) x (later (omega arith)))
    (eq-or-lt_of_le low)

pub in_range : {X : Type 0} (g : ℕ → List X) (a n j : ℕ) (x : X) → a ≤ j → j < a + n → Contains (g j) x → Contains (flat_map g (range_with_len a n)) x
in_range g a zero j x low high has = absurd (omega arith)
in_range g a (suc n) j x low high has = in_later g a n j x (λ more. in_range g (a + 1) n j x more (omega arith) has) low has

-- one or none

pub in_if : {X : Type 0} (b : Bool) (x : X) → b ≡ true → Contains (if b then x ∷ [] else []) x
in_if true x is = (0, omega arith, refl)
in_if false x is = absurd cc

pub same_map : {X : Type 0} (g k : ℕ → X) (a n : ℕ) → ((j : ℕ) → g j ≡ k j) → map g (range_with_len a n) ≡ map k (range_with_len a n)
same_map g k a zero each = refl
same_map g k a (suc n) each = ap (λ x. x ∷ map g (range_with_len (a + 1) n)) (each a) ∙ ap (λ xs. k a ∷ xs) (same_map g k (a + 1) n each)
