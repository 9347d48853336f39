-- Each step keeps the rule of the queue.
use Rattle.std.proofs.Common.{◌≡◌, ◌≢◌, ℕ, zero, suc, ◌+◌, ◌≤◌, List, [], ◌∷◌, ◌++◌, All, set, sym, refl, ap, ◌∙◌, subst, ⊎_elim, arith}
use Rattle.std.specs.Prelude.{AllPairs, sum_by}
use Rattle.std.proofs.lemmas.List.Quantifiers.{all_pairs_push}
use Rattle.std.proofs.lemmas.List.Sums.{sum_by-cons, sum_by-append, sum_by_push}
use mathlib.Core.Option.{some, some-injective, some-ne-none}
use lib.ListN.{get_elem?}
use Rattle.crossbeam_queue.specs.Fifo.{Pushes, Pops, Merges, Admits, Learns}
use Rattle.crossbeam_queue.proofs.Lists.{at_set, at_snoc}
use Rattle.piped_reads.specs.declared.pieces.Piece.{Piece}
use Rattle.piped_reads.specs.declared.rule.Hand.{Hand}
use Rattle.piped_reads.specs.Rule.{hand, IsApart, IsFair}

-- a sum over all views, after one of them changed
sum_set : (f : Hand → ℕ) (views : List Hand) (seat : ℕ) (v w : Hand) → get_elem? views seat ≡ some v → sum_by f (set views seat w) + f v ≡ sum_by f views + f w
sum_set f [] seat v w at = absurd (some-ne-none v (sym at))
sum_set f (x ∷ views) zero v w at =
    let same : f x ≡ f v = ap f (some-injective x v at) in
    let a = sum_by-cons f w views in
    let b = sum_by-cons f x views in
    omega (arith, same, a, b)
sum_set f (x ∷ views) (suc seat) v w at =
    let rest = sum_set f views seat v w at in
    let a = sum_by-cons f x (set views seat w) in
    let b = sum_by-cons f x views in
    omega (arith, rest, a, b)

-- one view has no more than all
one_of : (f : Hand → ℕ) (views : List Hand) (seat : ℕ) (v : Hand) → get_elem? views seat ≡ some v → f v ≤ sum_by f views
one_of f [] seat v at = absurd (some-ne-none v (sym at))
one_of f (x ∷ views) zero v at =
    let same : f x ≡ f v = ap f (some-injective x v at) in
    let b = sum_by-cons f x views in
    omega (arith, same, b)
one_of f (x ∷ views) (suc seat) v at =
    let rest = one_of f views seat v at in
    let b = sum_by-cons f x views in
    omega (arith, rest, b)

-- all views but the first have nothing, so it has all
none_of : (f : Hand → ℕ) (views : List Hand) → ((seat : ℕ) (u : Hand) → get_elem? views seat ≡ some u → f u ≡ 0) → sum_by f views ≡ 0
none_of f [] none = refl
none_of f (x ∷ views) none =
    let here : f x ≡ 0 = none zero x refl in
    let rest = none_of f views (λ seat u at. none (suc seat) u at) in
    let b = sum_by-cons f x views in
    omega (arith, here, rest, b)

first_has_all : (f : Hand → ℕ) (views : List Hand) (v : Hand) → get_elem? views 0 ≡ some v → ((seat : ℕ) (u : Hand) → get_elem? views seat ≡ some u → seat ≢ 0 → f u ≡ 0) → sum_by f views ≡ f v
first_has_all f [] v at none = absurd (some-ne-none v (sym at))
first_has_all f (x ∷ views) v at none =
    let same : f x ≡ f v = ap f (some-injective x v at) in
    let rest = none_of f views (λ seat u there. none (suc seat) u there (λ is. omega (arith, is))) in
    let b = sum_by-cons f x views in
    omega (arith, same, rest, b)

pub begins : IsFair [] (hand [] [] ∷ [])
begins = record {
  others = λ seat v at other. others seat v at other;
  apart = λ v at. subst (λ (u : Hand). AllPairs IsApart u.put) (some-injective (hand [] []) v at) (λ i j d less within. absurd (omega (arith, within)));
  fair = λ weight. refl;
}
  where
    others : (seat : ℕ) (v : Hand) → get_elem? (hand [] [] ∷ []) seat ≡ some v → seat ≢ 0 → v.put ≡ []
    others zero v at other = absurd (other refl)
    others (suc seat) v at other = absurd (some-ne-none v (sym at))

abbrev put_by : (Piece → ℕ) → Hand → ℕ
put_by weight v = sum_by weight v.put

abbrev taken_by : (Piece → ℕ) → Hand → ℕ
taken_by weight v = sum_by weight v.taken

pub puts : (n : ℕ) (v : Hand) (x : Piece) → All (λ y. IsApart y x) v.put → Pushes IsFair n 0 v x (λ w. w ≡ hand (v.put ++ x ∷ []) v.taken)
puts n v x fresh items views room held at =
    let w : Hand = hand (v.put ++ x ∷ []) v.taken in
    let next : IsFair (items ++ x ∷ []) (set views 0 w) = record {
      others = λ seat u there other. ⊎_elim (λ (e : (seat ≡ 0) × (w ≡ u)). absurd (other e.0)) (λ (e : (seat ≢ 0) × (get_elem? views seat ≡ some u)). held.others seat u e.1 other) (at_set views 0 seat w u there);
      apart = λ u there. ⊎_elim (λ (e : (0 ≡ 0) × (w ≡ u)). subst (λ (y : Hand). AllPairs IsApart y.put) e.1 (all_pairs_push IsApart v.put x (held.apart v at) fresh))
          (λ (e : (0 ≢ 0) × (get_elem? views 0 ≡ some u)). absurd (e.0 refl)) (at_set views 0 0 w u there);
      fair = λ weight. omega (arith, held.fair weight, sum_set (put_by weight) views 0 v w at, sum_set (taken_by weight) views 0 v w at, sum_by_push weight v.put x, sum_by_push weight items x);
    } in
    (w, next, refl)

pub takes : (seat : ℕ) (v : Hand) → Pops IsFair seat v (λ x w. w ≡ hand v.put (v.taken ++ x ∷ []))
takes seat v x items views held at =
    let w : Hand = hand v.put (v.taken ++ x ∷ []) in
    let next : IsFair items (set views seat w) = record {
      others = λ other u there far. ⊎_elim (λ (e : (other ≡ seat) × (w ≡ u)). sym (ap (λ (y : Hand). y.put) e.1) ∙ held.others seat v at (λ first. far (e.0 ∙ first))) (λ (e : (other ≢ seat) × (get_elem? views other ≡ some u)). held.others other u e.1 far) (at_set views seat other w u there);
      apart = λ u there. ⊎_elim (λ (e : (0 ≡ seat) × (w ≡ u)). subst (λ (y : Hand). AllPairs IsApart y.put) e.1 (held.apart v (subst (λ k. get_elem? views k ≡ some v) (sym e.0) at)))
          (λ (e : (0 ≢ seat) × (get_elem? views 0 ≡ some u)). held.apart u e.1) (at_set views seat 0 w u there);
      fair = λ weight. omega (arith, held.fair weight, sum_set (put_by weight) views seat v w at, sum_set (taken_by weight) views seat v w at, sum_by_push weight v.taken x, sum_by-cons weight x items);
    } in
    (w, next, refl)

pub admits : Admits IsFair (hand [] [])
admits items views held = record {
  others = λ seat u there far. ⊎_elim (λ (e : get_elem? views seat ≡ some u). held.others seat u e far) (λ (e : hand [] [] ≡ u). sym (ap (λ (y : Hand). y.put) e)) (at_snoc views (hand [] []) u seat there);
  apart = λ u there. ⊎_elim (λ (e : get_elem? views 0 ≡ some u). held.apart u e) (λ (e : hand [] [] ≡ u). subst (λ (y : Hand). AllPairs IsApart y.put) e (λ i j d less within. absurd (omega (arith, within)))) (at_snoc views (hand [] []) u 0 there);
  fair = λ weight. omega (arith, held.fair weight, sum_by_push (put_by weight) views (hand [] []), sum_by_push (taken_by weight) views (hand [] []));
}

pub merges : (v : Hand) (other : ℕ) (w : Hand) → Merges IsFair 0 v other w (hand v.put (v.taken ++ w.taken)) (hand [] [])
merges v other w items views held at far at_other =
    let both : Hand = hand v.put (v.taken ++ w.taken) in
    let spent : Hand = hand [] [] in
    let vs : List Hand = set views 0 both in
    let was : get_elem? views other ≡ some w =
    ⊎_elim (λ (e : (other ≡ 0) × (both ≡ w)). absurd (far e.0)) (λ (e : (other ≢ 0) × (get_elem? views other ≡ some w)). e.1) (at_set views 0 other both w at_other) in
    let put_nothing : w.put ≡ [] = held.others other w was far in
    record {
      others = λ seat u there away. ⊎_elim (λ (e : (seat ≡ other) × (spent ≡ u)). sym (ap (λ (y : Hand). y.put) e.1))
          (λ (e : (seat ≢ other) × (get_elem? vs seat ≡ some u)). ⊎_elim (λ (f : (seat ≡ 0) × (both ≡ u)). absurd (away f.0)) (λ (f : (seat ≢ 0) × (get_elem? views seat ≡ some u)). held.others seat u f.1 away) (at_set views 0 seat both u e.1))
          (at_set vs other seat spent u there);
      apart = λ u there. ⊎_elim (λ (e : (0 ≡ other) × (spent ≡ u)). absurd (far (sym e.0)))
          (λ (e : (0 ≢ other) × (get_elem? vs 0 ≡ some u)). ⊎_elim (λ (f : (0 ≡ 0) × (both ≡ u)). subst (λ (y : Hand). AllPairs IsApart y.put) f.1 (held.apart v at)) (λ (f : (0 ≢ 0) × (get_elem? views 0 ≡ some u)). absurd (f.0 refl)) (at_set views 0 0 both u e.1))
          (at_set vs other 0 spent u there);
      fair = λ weight.
          let nothing : sum_by weight w.put ≡ 0 = ap (sum_by weight) put_nothing in
          omega (
            arith,
            held.fair weight,
            nothing,
            sum_set (put_by weight) views 0 v both at,
            sum_set (taken_by weight) views 0 v both at,
            sum_set (put_by weight) vs other w spent at_other,
            sum_set (taken_by weight) vs other w spent at_other,
            sum_by-append weight v.taken w.taken,
          );
    }

pub accounts : (v : Hand) → Learns IsFair 0 v (λ items. (weight : Piece → ℕ) → sum_by weight v.taken + sum_by weight items ≤ sum_by weight v.put)
accounts v items views held at weight =
    let put = first_has_all (put_by weight) views v at (λ seat u there far. ap (sum_by weight) (held.others seat u there far)) in
    let taken = one_of (taken_by weight) views 0 v at in
    omega (arith, held.fair weight, put, taken)

-- the same of a pass that is known to be the first
pub puts_first : (n seat : ℕ) (v : Hand) (x : Piece) → seat ≡ 0 → All (λ y. IsApart y x) v.put → Pushes IsFair n seat v x (λ w. w ≡ hand (v.put ++ x ∷ []) v.taken)
puts_first n seat v x first fresh = subst (λ (s : ℕ). Pushes IsFair n s v x (λ w. w ≡ hand (v.put ++ x ∷ []) v.taken)) (sym first) (puts n v x fresh)

pub merges_first : (seat : ℕ) (v : Hand) (other : ℕ) (w : Hand) → seat ≡ 0 → Merges IsFair seat v other w (hand v.put (v.taken ++ w.taken)) (hand [] [])
merges_first seat v other w first = subst (λ (s : ℕ). Merges IsFair s v other w (hand v.put (v.taken ++ w.taken)) (hand [] [])) (sym first) (merges v other w)

pub accounts_first : (seat : ℕ) (v : Hand) → seat ≡ 0 → Learns IsFair seat v (λ items. (weight : Piece → ℕ) → sum_by weight v.taken + sum_by weight items ≤ sum_by weight v.put)
accounts_first seat v first = subst (λ (s : ℕ). Learns IsFair s v (λ items. (weight : Piece → ℕ) → sum_by weight v.taken + sum_by weight items ≤ sum_by weight v.put)) (sym first) (accounts v)
