-- Turn after turn, until no class waits.
use Rattle.std.proofs.Common.{◌≡◌, ◌≢◌, ℕ, ◌<◌, ◌≤◌, Bool, false, List, [], ◌∷◌, ◌++◌, length, map, get_or, set, Contains, sym, ap, ◌∙◌, subst, ⊎_elim, inl, inr, arith}
use Rattle.std.proofs.lemmas.Bool.{both_ways, cases_eq, cases_lt}
use Rattle.std.proofs.lemmas.List.{ext_get_or, get_or-map, get_or-set_other, get_or-set_same, get_or_past, length-map, length-set}
use Rattle.std.proofs.lemmas.List.Elements.{Contains-append_cases, Contains-append_left}
use Rattle.lk_base.proofs.Membership.{only_one}
use Rattle.icf_part.specs.Classes.{GoesOn, IsKept, IsSettled, Waits}
use Rattle.icf_part.specs.Edges.{IsPending, IsTurned, end_at}
use Rattle.icf_part.specs.Folding.{Pair}
use Rattle.icf_part.specs.Numbered.{AreCarried, AreEnds, IsStable, Joins}
use Rattle.icf_part.specs.Signatures.{end_classes}

-- a class leaves the queue
unwaits : (waits : List Bool) (label other : ℕ) → Waits (set waits label false) other → (other ≢ label) × Waits waits other
unwaits waits label other w = ⊎_elim
    (λ (here : other ≡ label). ⊎_elim
    (λ (lt : label < length waits). absurd (both_ways (get_or (set waits label false) other false) (ap (λ k. get_or (set waits label false) k false) here ∙ get_or-set_same waits label false false lt) w))
    (λ (past : length waits ≤ label). absurd (both_ways (get_or (set waits label false) other false) (get_or_past (set waits label false) other false (omega (arith, past, here, length-set waits label false))) w))
    (cases_lt label (length waits)))
    (λ (apart : other ≢ label). (apart, sym (get_or-set_other waits label other false false apart) ∙ w))
    (cases_eq other label)

left_in : (left : List ℕ) (label k : ℕ) → Contains left k → Contains (left ++ label ∷ []) k
left_in left label k has = Contains-append_left left (label ∷ []) k has

pub popped : (n label : ℕ) (labels sizes : List ℕ) (members : List (List ℕ)) (waits : List Bool) (queue left : List ℕ) → IsKept n labels sizes members waits queue → queue ≡ left ++ label ∷ [] →
    IsKept n labels sizes members (set waits label false) left
popped n label labels sizes members waits queue left kept is =
    let P : ℕ → List ℕ → Type 0 = λ k l. Contains l k in
    record {
      wide = kept.wide;
      below = kept.below;
      counted = kept.counted;
      member_lists = kept.member_lists;
      listed = kept.listed;
      within = kept.within;
      marks = length-set waits label false ∙ kept.marks;
      queued = λ k w.
          let was = unwaits waits label k w in
          ⊎_elim
          (λ (before : Contains left k). before)
          (λ (last : Contains (label ∷ []) k). absurd (was.0 (sym (only_one label k last))))
          (Contains-append_cases left (label ∷ []) k (let Q : List ℕ → Type 0 = λ l. Contains l k in subst Q is (kept.queued k was.1)));
      inside = λ k has. kept.inside k (let Q : List ℕ → Type 0 = λ l. Contains l k in subst Q (sym is) (left_in left label k has));
      room = kept.room;
    }

-- what the turns keep
pub record IsWay (ends : List (List ℕ)) (start labels : List ℕ) (waits : List Bool) : Type 0 where
  pub pending : IsPending ends labels waits
  pub outer : (pairs : List Pair) → AreCarried ends pairs → Joins pairs start → Joins pairs labels

module _ (ends : List (List ℕ)) (start labels next : List ℕ) (label : ℕ) (waits waits2 : List Bool) (queue queue2 : List ℕ) (ends_are : AreEnds ends start)
    (finer : (a b : ℕ) → a < length ends → b < length ends → get_or labels a 0 ≡ get_or labels b 0 → get_or start a 0 ≡ get_or start b 0)
    (goes : GoesOn (length ends) labels (set waits label false) queue next waits2 queue2) (turned : IsTurned ends label labels next) where
  marked : (other : ℕ) → other ≢ label → Waits waits other → Waits (set waits label false) other
  marked other apart w = get_or-set_other waits label other false false apart ∙ w

  row_as : (a b : ℕ) → a < length ends → b < length ends → get_or next a 0 ≡ get_or next b 0 → length (get_or ends a []) ≡ length (get_or ends b [])
  row_as a b la lb e = ends_are.alike a b la lb (finer a b la lb (goes.finer a b la lb e))

  settles : (a b k : ℕ) → a < length ends → b < length ends → get_or next a 0 ≡ get_or next b 0 → k < length (get_or ends a []) →
      IsSettled labels waits (end_at ends a k) (end_at ends b k) → IsSettled labels (set waits label false) (end_at ends a k) (end_at ends b k)
  settles a b k la lb e lk s =
      let x = end_at ends a k in
      let y = end_at ends b k in
      let also : k < length (get_or ends b []) = omega (arith, lk, row_as a b la lb e) in
      ⊎_elim
      (λ (same : get_or labels x 0 ≡ get_or labels y 0). inl same)
      (λ w. ⊎_elim
      (λ (one : Waits waits (get_or labels x 0)). ⊎_elim
      (λ (own : get_or labels x 0 ≡ label). inl (own ∙ sym (turned.apart k a b la lb e lk own)))
      (λ (other : get_or labels x 0 ≢ label). inr (inl (marked (get_or labels x 0) other one)))
      (cases_eq (get_or labels x 0) label))
      (λ (two : Waits waits (get_or labels y 0)). ⊎_elim
      (λ (own : get_or labels y 0 ≡ label). inl (turned.apart k b a lb la (sym e) also own ∙ sym own))
      (λ (other : get_or labels y 0 ≢ label). inr (inr (marked (get_or labels y 0) other two)))
      (cases_eq (get_or labels y 0) label))
      w)
      s

  pub way_on : IsWay ends start labels waits → IsWay ends start next waits2
  way_on way = record {
    pending = record {
      settled = λ a b k la lb e lk.
          let also : k < length (get_or ends b []) = omega (arith, lk, row_as a b la lb e) in
          goes.settled (end_at ends a k) (end_at ends b k) (ends_are.within a k lk) (ends_are.within b k also)
          (settles a b k la lb e lk (way.pending.settled a b k la lb (goes.finer a b la lb e) lk));
    };
    outer = λ pairs carried joins a b has.
        let own = way.outer pairs carried joins in
        turned.together a b (carried.one a b has) (carried.two a b has) (carried.leads labels own a b has) (own a b has);
  }

-- no class waits
pub way_ends : (ends : List (List ℕ)) (start labels : List ℕ) (waits : List Bool) → AreEnds ends start →
    ((a b : ℕ) → a < length ends → b < length ends → get_or labels a 0 ≡ get_or labels b 0 → get_or start a 0 ≡ get_or start b 0) →
    ((label : ℕ) → Waits waits label → ⊥) → IsPending ends labels waits → IsStable ends labels
unfolding end_classes
way_ends ends start labels waits ends_are finer none pending = record {
  stays = λ a b la lb e.
      let at : ℕ → ℕ = λ t. get_or labels t 0 in
      let wide = ends_are.alike a b la lb (finer a b la lb e) in
      let wa = length-map (get_or ends a []) at in
      let wb = length-map (get_or ends b []) at in
      ext_get_or 0 (map at (get_or ends a [])) (map at (get_or ends b [])) (wa ∙ wide ∙ sym wb) (λ k lt.
      let lk : k < length (get_or ends a []) = omega (arith, lt, wa) in
      let also : k < length (get_or ends b []) = omega (arith, lk, wide) in
      get_or-map at (get_or ends a []) k 0 0 lk
      ∙ ⊎_elim
      (λ (same : get_or labels (end_at ends a k) 0 ≡ get_or labels (end_at ends b k) 0). same)
      (λ w. ⊎_elim (λ one. absurd (none (get_or labels (end_at ends a k) 0) one)) (λ two. absurd (none (get_or labels (end_at ends b k) 0) two)) w)
      (pending.settled a b k la lb e lk)
      ∙ sym (get_or-map at (get_or ends b []) k 0 0 also));
}
