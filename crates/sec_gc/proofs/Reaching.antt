-- What is reached in rounds, and what marks are that say it.
use Rattle.std.proofs.Common.{◌≡◌, ℕ, zero, suc, ◌<◌, ◌≤◌, ◌&&◌, Bool, true, false, List, [], length, Contains, refl, sym, ◌∙◌, subst, ⊎_elim, arith}
use Rattle.std.specs.List.{list_any, range_with_len}
use Rattle.std.proofs.Math.Nat.{eq-or-lt_of_le}
use Rattle.std.proofs.lemmas.Bool.{and_from, and_parts, cases_lt, or_cases, or_left, or_right}
use Rattle.std.proofs.lemmas.List.{get_or_past}
use Rattle.std.proofs.lemmas.List.Folds.{Any-from_list_any, list_any_at}
use Rattle.std.proofs.lemmas.List.FromFn.{fill_by_all, length-range_with_len}
use Rattle.std.specs.Cmp.{both_ways}
use Rattle.lk_base.specs.RelocKinds.{is_among}
use Rattle.lk_base.proofs.Membership.{among_has, among_tells}
use Rattle.lk_tables.specs.Reach.{mark, ends_at, IsClosed, IsReach}
use Rattle.sec_gc.specs.Kept.{reached, reached_in}
use Rattle.lk_base.proofs.Ranges.{range_read}

-- a place that has ends is one of the list
leader_within : (ends : List (List ℕ)) (e g : ℕ) → Contains (ends_at ends e) g → e < length ends
leader_within ends e g has = ⊎_elim
    (λ (lt : e < length ends). lt)
    (λ (past : length ends ≤ e).
    let P : List ℕ → Type 0 = λ l. Contains l g in
    let none = subst P (get_or_past ends e [] past) has in
    let lt = none.1 in
    absurd (omega arith))
    (cases_lt e (length ends))

module _ (roots : List ℕ) (ends : List (List ℕ)) where
  pub root_reached : (f : ℕ) → Contains roots f → reached_in roots ends 0 f ≡ true
  unfolding reached_in
  root_reached f has = among_has roots f has

  -- one round more
  one_more : (n f : ℕ) → reached_in roots ends n f ≡ true → reached_in roots ends (suc n) f ≡ true
  unfolding reached_in
  one_more n f is = or_left (reached_in roots ends n f) (list_any (λ e. reached_in roots ends n e && is_among (ends_at ends e) f) (range_with_len 0 (length ends))) is

  pub more_rounds : (m n f : ℕ) → m ≤ n → reached_in roots ends m f ≡ true → reached_in roots ends n f ≡ true
  more_rounds m zero f le is = let e : m ≡ 0 = omega arith in subst (λ k. reached_in roots ends k f ≡ true) e is
  more_rounds m (suc n) f le is = ⊎_elim
      (λ (same : m ≡ suc n). subst (λ k. reached_in roots ends k f ≡ true) same is)
      (λ (lt : m < suc n). one_more n f (more_rounds m n f (omega arith) is))
      (eq-or-lt_of_le le)

  pub next_reached : (n e f : ℕ) → reached_in roots ends n e ≡ true → Contains (ends_at ends e) f → reached_in roots ends (suc n) f ≡ true
  unfolding reached_in
  next_reached n e f is has =
      let test : ℕ → Bool = λ k. reached_in roots ends n k && is_among (ends_at ends k) f in
      let r = range_with_len 0 (length ends) in
      let lt = leader_within ends e f has in
      let P : ℕ → Type 0 = λ k. test k ≡ true in
      or_right (reached_in roots ends n f) (list_any test r)
      (list_any_at test r e 0 (omega (arith, length-range_with_len 0 (length ends)))
      (subst P (sym (range_read (length ends) e 0 lt)) (and_from (reached_in roots ends n e) (is_among (ends_at ends e) f) is (among_has (ends_at ends e) f has))))

  -- no round leaves a closed set
  pub reached_inside : (s : ℕ → Bool) → IsClosed roots ends s → (n f : ℕ) → reached_in roots ends n f ≡ true → s f ≡ true
  unfolding reached_in
  reached_inside s closed zero f is = closed.rooted f (among_tells roots f is)
  reached_inside s closed (suc n) f is =
      let test : ℕ → Bool = λ e. reached_in roots ends n e && is_among (ends_at ends e) f in
      let r = range_with_len 0 (length ends) in
      ⊎_elim
      (λ (before : reached_in roots ends n f ≡ true). reached_inside s closed n f before)
      (λ (some : list_any test r ≡ true).
      let any = Any-from_list_any test r some in
      let e : ℕ = any.1 in
      let both = and_parts (reached_in roots ends n e) (is_among (ends_at ends e) f) any.4 in
      closed.followed e f (reached_inside s closed n e both.0) (among_tells (ends_at ends e) f both.1))
      (or_cases (reached_in roots ends n f) (list_any test r) is)

-- closed marks of which each is reached in some rounds, no more of these than there are places, are the list
pub marks_are : (roots : List ℕ) (ends : List (List ℕ)) (seen : List Bool) → length seen ≡ length ends → IsClosed roots ends (mark seen) →
    ((f : ℕ) → mark seen f ≡ true → reached_in roots ends (length ends) f ≡ true) → seen ≡ reached roots ends
unfolding reached
marks_are roots ends seen wide closed found =
    fill_by_all (reached_in roots ends (length ends)) seen (length ends) false wide
    (λ k lt. both_ways (mark seen k) (reached_in roots ends (length ends) k) (found k) (reached_inside roots ends (mark seen) closed (length ends) k))

-- there is one list of marks that is what is reached
pub reach_is_one : (roots : List ℕ) (ends : List (List ℕ)) (a b : List Bool) → IsReach roots ends a → IsReach roots ends b → a ≡ b
reach_is_one roots ends a b x y =
    fill_by_all (mark b) a (length ends) false x.wide
    (λ k lt. both_ways (mark a k) (mark b k) (x.least (mark b) y.closed k) (y.least (mark a) x.closed k))
    ∙ sym (fill_by_all (mark b) b (length ends) false y.wide (λ k lt. refl))
