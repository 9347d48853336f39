-- What one step shows and places.
use Rattle.std.proofs.Common.{◌≡◌, ◌≢◌, ℕ, ◌⊎◌, inl, inr, Bool, [], ◌∷◌, ◌++◌, flat_map, Contains, sym, subst, ⊎_elim, if◌then◌else◌, arith}
use Rattle.std.proofs.lemmas.Bool.{cases_eq, eq-eqb, ne_eqb}
use Rattle.std.proofs.lemmas.List.Elements.{Contains-push, Contains-push_cases}
use Rattle.intern_race.specs.declared.rule.OwnStep.TheVariants.{Loaded, Tried, Lowered}
use Rattle.intern_race.specs.declared.rule.Pair.{Pair}
use Rattle.intern_race.specs.Interning.{pair, placed_by, seen_by}
use Rattle.intern_race.specs.Slots.{holder, none}

nothing_in : (p : Pair) → Contains [] p → ⊥
nothing_in p has = let lt = has.1 in omega (arith, lt)

only_one : (x p : Pair) → Contains (x ∷ []) p → x ≡ p
only_one x p has = ⊎_elim (λ (none : Contains [] p). absurd (nothing_in p none)) (λ (is : x ≡ p). is) (Contains-push_cases [] x p has)

-- a load shows what a filled slot holds
pub seen_loaded : (k w : ℕ) (p : Pair) → Contains (flat_map seen_by (Loaded k w ∷ [])) p → (w ≢ none) × (pair k (holder w) ≡ p)
seen_loaded k w p has =
    let Has : Bool → Type 0 = λ b. Contains ((if b then [] else pair k (holder w) ∷ []) ++ []) p in
    ⊎_elim
    (λ (is : w ≡ none). absurd (nothing_in p (subst Has (eq-eqb w none is) has)))
    (λ (ne : w ≢ none). (ne, only_one (pair k (holder w)) p (subst Has (ne_eqb w none ne) has)))
    (cases_eq w none)

-- a try shows its own text where the slot was empty, and what it holds where it was not
pub seen_tried : (k i w : ℕ) (p : Pair) → Contains (flat_map seen_by (Tried k i w ∷ [])) p → ((w ≡ none) × (pair k i ≡ p)) ⊎ ((w ≢ none) × (pair k (holder w) ≡ p))
seen_tried k i w p has =
    let Has : Bool → Type 0 = λ b. Contains ((if b then pair k i ∷ [] else pair k (holder w) ∷ []) ++ []) p in
    ⊎_elim
    (λ (is : w ≡ none). inl (is, only_one (pair k i) p (subst Has (eq-eqb w none is) has)))
    (λ (ne : w ≢ none). inr (ne, only_one (pair k (holder w)) p (subst Has (ne_eqb w none ne) has)))
    (cases_eq w none)

pub tried_fills : (k i w : ℕ) → w ≡ none → Contains (flat_map seen_by (Tried k i w ∷ [])) (pair k i)
tried_fills k i w is =
    let Has : Bool → Type 0 = λ b. Contains ((if b then pair k i ∷ [] else pair k (holder w) ∷ []) ++ []) (pair k i) in
    subst Has (sym (eq-eqb w none is)) (Contains-push [] (pair k i))

pub tried_shows : (k i w : ℕ) → w ≢ none → Contains (flat_map seen_by (Tried k i w ∷ [])) (pair k (holder w))
tried_shows k i w ne =
    let Has : Bool → Type 0 = λ b. Contains ((if b then pair k i ∷ [] else pair k (holder w) ∷ []) ++ []) (pair k (holder w)) in
    subst Has (sym (ne_eqb w none ne)) (Contains-push [] (pair k (holder w)))

-- an offer places its text
pub placed_lowered : (k i w : ℕ) (p : Pair) → Contains (flat_map placed_by (Lowered k i w ∷ [])) p → pair k i ≡ p
placed_lowered k i w p has = only_one (pair k i) p has
