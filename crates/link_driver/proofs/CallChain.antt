-- Members of one output section, one after the other: each starts at most its alignment less one after the end of the one before.
use Rattle.std.proofs.Common.{◌≡◌, ℕ, ◌+◌, ◌-◌, ◌≤◌, ◌==◌, ◌&&◌, ◌⊎◌, Bool, true, false, if◌then◌else◌, List, [], ◌∷◌, ◌++◌, refl, sym, ap, ◌∙◌, subst, arith, inl, inr}
use Rattle.std.specs.Prelude.{All}
use Rattle.std.specs.List.{list_all, sum_by}
use Rattle.std.proofs.lemmas.Bool.{eq-eqb}
use Rattle.std.proofs.lemmas.List.Elements.{All-nil, All-head, All-tail, All-cons}
use Rattle.std.proofs.lemmas.List.Folds.{list_all-append}
use Rattle.std.proofs.lemmas.List.Sums.{sum_by-cons}
use Rattle.lk_base.specs.Arithmetic.{up}
use Rattle.lk_base.proofs.Multiples.{up_below, up_least}
use Rattle.link_sections.specs.declared.members.Member.{Member}
use Rattle.link_sections.specs.Cuts.{Cut}
use Rattle.output_sections.specs.declared.rows.Row.{Row}
use Rattle.layout.specs.declared.walk.Cursor.{Cursor}
use Rattle.layout.specs.Walk.{after, beside, is_empty, member_at, members_along, members_from, members_in, past, runs, size_at, start_of}

-- some run has these rows, one after the other
pub record HasRun (seg : List Row) (os : List (List Row)) : Type 0 where
  pub before : List (List Row)
  pub front : List Row
  pub back : List Row
  pub later : List (List Row)
  pub is : os ≡ before ++ ((front ++ (seg ++ back)) ∷ later)

-- the first run begins with them
record FirstRun (seg : List Row) (os : List (List Row)) : Type 0 where
  back : List Row
  later : List (List Row)
  is : os ≡ (seg ++ back) ∷ later

first_beside : (x : Row) (os : List (List Row)) → FirstRun (x ∷ []) (beside x os)
first_beside x [] = record { back = []; later = []; is = refl }
first_beside x ([] ∷ rest) = record { back = []; later = rest; is = refl }
first_beside x ((next ∷ run) ∷ rest) = by (next.group == x.group)
  where
    by : (b : Bool) → FirstRun (x ∷ []) (if b then (x ∷ next ∷ run) ∷ rest else (x ∷ []) ∷ (next ∷ run) ∷ rest)
    by true = record { back = next ∷ run; later = rest; is = refl }
    by false = record { back = []; later = (next ∷ run) ∷ rest; is = refl }

more_beside : (x y : Row) (ys : List Row) (os : List (List Row)) → y.group ≡ x.group → FirstRun (y ∷ ys) os → FirstRun (x ∷ y ∷ ys) (beside x os)
more_beside x y ys os same first = record {
  back = first.back;
  later = first.later;
  is = ap (beside x) first.is
      ∙ ap (λ b. if b then (x ∷ y ∷ (ys ++ first.back)) ∷ first.later else (x ∷ []) ∷ (y ∷ (ys ++ first.back)) ∷ first.later) (eq-eqb y.group x.group same);
}

abbrev pub IsOfGroup : (g : ℕ) → Row → Type 0
IsOfGroup g r = r.group ≡ g

first_run : (g : ℕ) (x : Row) (xs post : List Row) → All (IsOfGroup g) (x ∷ xs) → FirstRun (x ∷ xs) (runs (x ∷ (xs ++ post)))
unfolding runs
first_run g x [] post all = first_beside x (runs post)
first_run g x (y ∷ ys) post all =
    let rest = All-tail (IsOfGroup g) x (y ∷ ys) all in
    let a = All-head (IsOfGroup g) x (y ∷ ys) all in
    let b = All-head (IsOfGroup g) y ys rest in
    more_beside x y ys (runs (y ∷ (ys ++ post))) (b ∙ sym a) (first_run g y ys post rest)

-- a row before them changes no run but the first
one_before : (x : Row) (y : Row) (ys : List Row) (os : List (List Row)) → HasRun (y ∷ ys) os → HasRun (y ∷ ys) (beside x os)
one_before x y ys os has = by has.before has.front has.is
  where
    keep : (r : Row) (run : List Row) (rest : List (List Row)) → (((beside x ((r ∷ run) ∷ rest)) ≡ (x ∷ r ∷ run) ∷ rest) ⊎ ((beside x ((r ∷ run) ∷ rest)) ≡ (x ∷ []) ∷ (r ∷ run) ∷ rest))
    keep r run rest = go (r.group == x.group)
      where
        go : (b : Bool) → (((if b then (x ∷ r ∷ run) ∷ rest else (x ∷ []) ∷ (r ∷ run) ∷ rest) ≡ (x ∷ r ∷ run) ∷ rest)
            ⊎ ((if b then (x ∷ r ∷ run) ∷ rest else (x ∷ []) ∷ (r ∷ run) ∷ rest) ≡ (x ∷ []) ∷ (r ∷ run) ∷ rest))
        go true = inl refl
        go false = inr refl

    by : (before : List (List Row)) (front : List Row) → os ≡ before ++ ((front ++ ((y ∷ ys) ++ has.back)) ∷ has.later) → HasRun (y ∷ ys) (beside x os)
    by [] [] is = elim (keep y (ys ++ has.back) has.later) [
      | inl joined ↦ record { before = []; front = x ∷ []; back = has.back; later = has.later; is = ap (beside x) is ∙ joined }
      | inr alone ↦ record { before = (x ∷ []) ∷ []; front = []; back = has.back; later = has.later; is = ap (beside x) is ∙ alone }
    ]
    by [] (f ∷ fs) is = elim (keep f (fs ++ ((y ∷ ys) ++ has.back)) has.later) [
      | inl joined ↦ record { before = []; front = x ∷ f ∷ fs; back = has.back; later = has.later; is = ap (beside x) is ∙ joined }
      | inr alone ↦ record { before = (x ∷ []) ∷ []; front = f ∷ fs; back = has.back; later = has.later; is = ap (beside x) is ∙ alone }
    ]
    by ([] ∷ bs) front is = record { before = (x ∷ []) ∷ bs; front = front; back = has.back; later = has.later; is = ap (beside x) is }
    by ((f ∷ fs) ∷ bs) front is = elim (keep f fs (bs ++ ((front ++ ((y ∷ ys) ++ has.back)) ∷ has.later))) [
      | inl joined ↦ record { before = (x ∷ f ∷ fs) ∷ bs; front = front; back = has.back; later = has.later; is = ap (beside x) is ∙ joined }
      | inr alone ↦ record { before = (x ∷ []) ∷ (f ∷ fs) ∷ bs; front = front; back = has.back; later = has.later; is = ap (beside x) is ∙ alone }
    ]

pub has_run : (g : ℕ) (pre : List Row) (x : Row) (xs post : List Row) → All (IsOfGroup g) (x ∷ xs) → HasRun (x ∷ xs) (runs (pre ++ (x ∷ (xs ++ post))))
unfolding runs
has_run g [] x xs post all =
    let first = first_run g x xs post all in
    record { before = []; front = []; back = first.back; later = first.later; is = first.is }
has_run g (p ∷ ps) x xs post all = one_before p x xs (runs (ps ++ (x ∷ (xs ++ post)))) (has_run g ps x xs post all)

pub split_all : (P : Member → Type 0) (xs ys : List Member) → All P (xs ++ ys) → All P xs × All P ys
split_all P [] ys all = (All-nil P, all)
split_all P (x ∷ xs) ys all =
    let rest = split_all P xs ys (All-tail P x (xs ++ ys) all) in
    (All-cons P x xs (All-head P x (xs ++ ys) all) rest.0, rest.1)

module _ (P : Member → Type 0) (sizes : List (List Cut)) where
  -- what holds of all members holds of those of a part of a run
  back_from : (c : ℕ) (xs ys : List Row) → All P (members_from sizes c (xs ++ ys)) → All P (members_from sizes (past sizes c xs) ys)
  back_from c [] ys all = all
  back_from c (x ∷ xs) ys all =
      let at : ℕ = up c x.align in
      back_from (at + size_at sizes at x) xs ys (All-tail P (member_at sizes at x) (members_from sizes (at + size_at sizes at x) (xs ++ ys)) all)

  front_from : (c : ℕ) (xs ys : List Row) → All P (members_from sizes c (xs ++ ys)) → All P (members_from sizes c xs)
  front_from c [] ys all = All-nil P
  front_from c (x ∷ xs) ys all =
      let at : ℕ = up c x.align in
      let next : ℕ = at + size_at sizes at x in
      All-cons P (member_at sizes at x) (members_from sizes next xs) (All-head P (member_at sizes at x) (members_from sizes next (xs ++ ys)) all)
      (front_from next xs ys (All-tail P (member_at sizes at x) (members_from sizes next (xs ++ ys)) all))

  some_run : (c : Cursor) (before : List (List Row)) (run : List Row) (later : List (List Row)) → All P (members_along sizes c (before ++ (run ∷ later))) → is_empty run ≡ false
      → (s : ℕ) × All P (members_from sizes s run)
  unfolding members_in
  some_run c [] run later all full =
      let both = split_all P (members_in sizes c run) (members_along sizes (after sizes c run) later) all in
      (start_of c run, subst (λ b. All P (if b then [] else members_from sizes (start_of c run) run)) full both.0)
  some_run c (o ∷ os) run later all full =
      some_run (after sizes c o) os run later (split_all P (members_in sizes c o) (members_along sizes (after sizes c o) (os ++ (run ∷ later))) all).1 full

  full_run : (front seg back : List Row) → is_empty seg ≡ false → is_empty (front ++ (seg ++ back)) ≡ false
  unfolding is_empty
  full_run front seg back some =
      list_all-append (λ (r : Row). r.size == 0) front (seg ++ back)
      ∙ ap (λ b. list_all (λ (r : Row). r.size == 0) front && b) (list_all-append (λ (r : Row). r.size == 0) seg back ∙ ap (λ b. b && list_all (λ (r : Row). r.size == 0) back) some)
      ∙ no_second (list_all (λ (r : Row). r.size == 0) front)
    where
      no_second : (b : Bool) → (b && false) ≡ false
      no_second true = refl
      no_second false = refl

  pub run_members : (c : Cursor) (g : ℕ) (pre : List Row) (x : Row) (xs post : List Row) → All (IsOfGroup g) (x ∷ xs) → is_empty (x ∷ xs) ≡ false
      → All P (members_along sizes c (runs (pre ++ (x ∷ (xs ++ post))))) → (s : ℕ) × All P (members_from sizes s (x ∷ xs))
  run_members c g pre x xs post group full all =
      let has = has_run g pre x xs post group in
      let here = some_run c has.before (has.front ++ ((x ∷ xs) ++ has.back)) has.later (subst (λ os. All P (members_along sizes c os)) has.is all)
      (full_run has.front (x ∷ xs) has.back full) in
      (past sizes here.0 has.front, front_from (past sizes here.0 has.front) (x ∷ xs) has.back (back_from here.0 has.front ((x ∷ xs) ++ has.back) here.1))

  -- where the members between two end
  module _ (most : Row → ℕ) (fits : (s : ℕ) (r : Row) → P (member_at sizes s r) → size_at sizes s r ≤ most r) where
    abbrev pub reach : Row → ℕ
    reach r = (r.align - 1) + most r

    past_far : (c : ℕ) (rows : List Row) → All (λ r. 1 ≤ r.align) rows → All P (members_from sizes c rows) → (past sizes c rows ≤ c + sum_by reach rows) × (c ≤ past sizes c rows)
    past_far c [] some all = (omega arith, omega arith)
    past_far c (r ∷ rs) some all =
        let at : ℕ = up c r.align in
        let next : ℕ = at + size_at sizes at r in
        let a = All-head (λ (x : Row). 1 ≤ x.align) r rs some in
        let rest = past_far next rs (All-tail (λ (x : Row). 1 ≤ x.align) r rs some) (All-tail P (member_at sizes at r) (members_from sizes next rs) all) in
        let far = rest.0 in
        let low = rest.1 in
        let fit = fits at r (All-head P (member_at sizes at r) (members_from sizes next rs) all) in
        let up_most = up_below c r.align a in
        let up_low = up_least c r.align a in
        (omega (arith, far, fit, up_most, a, sum_by-cons reach r rs), omega (arith, low, up_low))

    -- two members of an output section, with those between
    pub record AreNear (x y : Row) (mid : List Row) : Type 0 where
      pub first : ℕ
      pub second : ℕ
      pub one : P (member_at sizes first x)
      pub other : P (member_at sizes second y)
      pub after_first : first + size_at sizes first x ≤ second
      pub near : second ≤ first + size_at sizes first x + sum_by reach mid + (y.align - 1)

    pub two_near : (s : ℕ) (x y : Row) (mid : List Row) → 1 ≤ y.align → All (λ r. 1 ≤ r.align) mid → All P (members_from sizes s (x ∷ (mid ++ (y ∷ [])))) → AreNear x y mid
    two_near s x y mid y_some some all =
        let at : ℕ = up s x.align in
        let next : ℕ = at + size_at sizes at x in
        let rest = All-tail P (member_at sizes at x) (members_from sizes next (mid ++ (y ∷ []))) all in
        let between = past_far next mid some (front_from next mid (y ∷ []) rest) in
        let far = between.0 in
        let low = between.1 in
        let end = back_from next mid (y ∷ []) rest in
        let c : ℕ = past sizes next mid in
        let up_most = up_below c y.align y_some in
        let up_low = up_least c y.align y_some in
        record {
          first = at;
          second = up c y.align;
          one = All-head P (member_at sizes at x) (members_from sizes next (mid ++ (y ∷ []))) all;
          other = All-head P (member_at sizes (up c y.align) y) (members_from sizes (up c y.align + size_at sizes (up c y.align) y) []) end;
          after_first = omega (arith, low, up_low);
          near = omega (arith, far, up_most, y_some);
        }
