-- The new offset of a byte by the last cut before it.
use Rattle.std.proofs.Common.{◌≡◌, ℕ, zero, suc, ◌+◌, ◌-◌, ◌<◌, ◌≤◌, List, [], ◌∷◌, length, get_or, refl, ap, ◌∙◌, subst, arith, min, inl, inr}
use Rattle.std.proofs.lemmas.Bool.{cases_lt}
use Rattle.std.proofs.lemmas.List.Elements.{All-head, All-tail}
use Rattle.std.proofs.lemmas.List.Sums.{sum_by-cons}
use Rattle.link_sections.specs.Cuts.{Cut, AreApart, new_offset, whole_before, kept_before}

-- the same, one cut after the other from an offset on
abbrev Follow : (from : ℕ) → List Cut → Type 0
Follow from [] = Unit {0}
Follow from (c ∷ cs) = (from ≤ c.at) × (c.kept ≤ c.whole) × Follow (c.at + c.whole) cs

apart_rest : (c : Cut) (cs : List Cut) → AreApart (c ∷ cs) → AreApart cs
apart_rest c cs apart = record {
  kept = All-tail (λ (x : Cut). x.kept ≤ x.whole) c cs apart.kept;
  order = λ i d lt.
      let e : suc i + 1 ≡ suc (i + 1) = omega arith in
      let P : ℕ → Type 0 = λ k. (get_or cs i d).at + (get_or cs i d).whole ≤ (get_or (c ∷ cs) k d).at in
      subst P e (apart.order (suc i) d (omega arith));
}

follow : (from : ℕ) (cuts : List Cut) → AreApart cuts → ((d : Cut) → 0 < length cuts → from ≤ (get_or cuts 0 d).at) → Follow from cuts
follow from [] apart first = tt
follow from (c ∷ cs) apart first = (
  first c (omega arith),
  All-head (λ (x : Cut). x.kept ≤ x.whole) c cs apart.kept,
  follow (c.at + c.whole) cs (apart_rest c cs apart) (λ d lt. apart.order 0 d (omega arith)),
)

-- what cuts that start at or after an offset have before it: nothing
none_before : (from o : ℕ) (cuts : List Cut) → Follow from cuts → o ≤ from → (whole_before cuts o ≡ 0) × (kept_before cuts o ≡ 0)
none_before from o [] is le = (refl, refl)
none_before from o (c ∷ cs) is le =
    let low = is.0 in
    let rest = none_before (c.at + c.whole) o cs is.2 (omega arith) in
    let w = rest.0 in
    let k = rest.1 in
    let past : o - c.at ≡ 0 = omega arith in
    let mw : min (o - c.at) c.whole ≡ 0 = ap (λ n. min n c.whole) past ∙ omega arith in
    let mk : min (o - c.at) c.kept ≡ 0 = ap (λ n. min n c.kept) past ∙ omega arith in
    let head = sum_by-cons (λ (x : Cut). min (o - x.at) x.whole) c cs in
    let held = sum_by-cons (λ (x : Cut). min (o - x.at) x.kept) c cs in
    (omega (arith, head, w, mw), omega (arith, held, k, mk))

-- what they have before an offset is no more than there is from their start on
pub most_before : (from o : ℕ) (cuts : List Cut) → Follow from cuts → from ≤ o → whole_before cuts o + from ≤ o
most_before from o [] is le = omega arith
most_before from o (c ∷ cs) is le =
    let low = is.0 in
    let head = sum_by-cons (λ (x : Cut). min (o - x.at) x.whole) c cs in
    elim (cases_lt o (c.at + c.whole)) [
      | inl short ↦
          let none = (none_before (c.at + c.whole) o cs is.2 (omega arith)).0 in
          let m : min (o - c.at) c.whole ≤ o - c.at = omega arith in
          omega (arith, head, none, m, low, le)
      | inr long ↦
          let rest = most_before (c.at + c.whole) o cs is.2 long in
          let m : min (o - c.at) c.whole ≤ c.whole = omega arith in
          omega (arith, head, rest, m, low)
    ]

-- no more stays than there is
kept_most : (from o : ℕ) (cuts : List Cut) → Follow from cuts → kept_before cuts o ≤ whole_before cuts o
kept_most from o [] is = omega arith
kept_most from o (c ∷ cs) is =
    let low = is.1 in
    let rest = kept_most (c.at + c.whole) o cs is.2 in
    let m : min (o - c.at) c.kept ≤ min (o - c.at) c.whole = omega arith in
    omega (arith, sum_by-cons (λ (x : Cut). min (o - x.at) x.whole) c cs, sum_by-cons (λ (x : Cut). min (o - x.at) x.kept) c cs, rest, m)

pub no_more : (cuts : List Cut) (o : ℕ) → AreApart cuts → new_offset cuts o ≤ o
unfolding new_offset
no_more cuts o apart =
    let is = follow 0 cuts apart (λ x some. omega arith) in
    let k = kept_most 0 o cuts is in
    omega (arith, k)

-- the n-th cut comes after the end of each before it
after_first : (from : ℕ) (cuts : List Cut) (n : ℕ) (d : Cut) → Follow from cuts → n < length cuts → from ≤ (get_or cuts n d).at
after_first from [] n d is lt = absurd (omega arith)
after_first from (c ∷ cs) zero d is lt = is.0
after_first from (c ∷ cs) (suc n) d is lt =
    let low = is.0 in
    let later = after_first (c.at + c.whole) cs n d is.2 (omega arith) in
    omega (arith, low, later)

-- nothing if the first of them does
none_after : (from o : ℕ) (cuts : List Cut) (d : Cut) → Follow from cuts → (0 < length cuts → o ≤ (get_or cuts 0 d).at) →
    (whole_before cuts o ≡ 0) × (kept_before cuts o ≡ 0)
none_after from o [] d is next = (refl, refl)
none_after from o (c ∷ cs) d is next =
    let at : o ≤ c.at = next (omega arith) in
    let own : Follow c.at (c ∷ cs) = (omega arith, is.1, is.2) in
    none_before c.at o (c ∷ cs) own at

sums : (from : ℕ) (cuts : List Cut) (n o : ℕ) (d : Cut) → Follow from cuts → n < length cuts → (get_or cuts n d).at < o →
    (n + 1 < length cuts → o ≤ (get_or cuts (n + 1) d).at) →
    (whole_before cuts o ≡ whole_before cuts (get_or cuts n d).at + min (o - (get_or cuts n d).at) (get_or cuts n d).whole)
    × (kept_before cuts o ≡ kept_before cuts (get_or cuts n d).at + min (o - (get_or cuts n d).at) (get_or cuts n d).kept)
sums from [] n o d is lt before next = absurd (omega arith)
sums from (c ∷ cs) zero o d is lt before next =
    let head : (k : ℕ) → whole_before (c ∷ cs) k ≡ min (k - c.at) c.whole + whole_before cs k = λ k. sum_by-cons (λ (x : Cut). min (k - x.at) x.whole) c cs in
    let held : (k : ℕ) → kept_before (c ∷ cs) k ≡ min (k - c.at) c.kept + kept_before cs k = λ k. sum_by-cons (λ (x : Cut). min (k - x.at) x.kept) c cs in
    let own = none_before (c.at + c.whole) c.at cs is.2 (omega arith) in
    let rest = none_after (c.at + c.whole) o cs d is.2 (λ some. next (omega arith)) in
    let a = rest.0 in
    let b = rest.1 in
    let e = own.0 in
    let f = own.1 in
    let past : c.at - c.at ≡ 0 = omega arith in
    let mw : min (c.at - c.at) c.whole ≡ 0 = ap (λ n. min n c.whole) past ∙ omega arith in
    let mk : min (c.at - c.at) c.kept ≡ 0 = ap (λ n. min n c.kept) past ∙ omega arith in
    (omega (arith, head o, head c.at, a, e, mw), omega (arith, held o, held c.at, b, f, mk))
sums from (c ∷ cs) (suc n) o d is lt before next =
    let t : Cut = get_or cs n d in
    let head : (k : ℕ) → whole_before (c ∷ cs) k ≡ min (k - c.at) c.whole + whole_before cs k = λ k. sum_by-cons (λ (x : Cut). min (k - x.at) x.whole) c cs in
    let held : (k : ℕ) → kept_before (c ∷ cs) k ≡ min (k - c.at) c.kept + kept_before cs k = λ k. sum_by-cons (λ (x : Cut). min (k - x.at) x.kept) c cs in
    let later = after_first (c.at + c.whole) cs n d is.2 (omega arith) in
    let low = is.1 in
    let e : suc n + 1 ≡ suc (n + 1) = omega arith in
    let P : ℕ → Type 0 = λ k. o ≤ (get_or (c ∷ cs) k d).at in
    let rest = sums (c.at + c.whole) cs n o d is.2 (omega arith) before (λ some. subst P e (next (omega arith))) in
    let a = rest.0 in
    let b = rest.1 in
    let mo : min (o - c.at) c.whole ≡ c.whole = omega arith in
    let mt : min (t.at - c.at) c.whole ≡ c.whole = omega arith in
    let ko : min (o - c.at) c.kept ≡ c.kept = omega arith in
    let kt : min (t.at - c.at) c.kept ≡ c.kept = omega arith in
    (omega (arith, head o, head t.at, a, mo, mt), omega (arith, held o, held t.at, b, ko, kt))

pub no_cut : (o : ℕ) (cuts : List Cut) (d : Cut) → AreApart cuts → (0 < length cuts → o ≤ (get_or cuts 0 d).at) → new_offset cuts o ≡ o
unfolding new_offset
no_cut o cuts d apart next =
    let none = none_after 0 o cuts d (follow 0 cuts apart (λ x lt. omega arith)) next in
    let a = none.0 in
    let b = none.1 in
    omega (arith, a, b)

-- by the last cut before an offset: its own new offset, what it keeps up to the offset, and what comes after it
pub by_cut : (cuts : List Cut) (n o : ℕ) (d : Cut) → AreApart cuts → n < length cuts → (get_or cuts n d).at < o →
    (n + 1 < length cuts → o ≤ (get_or cuts (n + 1) d).at) →
    (new_offset cuts o ≡ new_offset cuts (get_or cuts n d).at + min (o - (get_or cuts n d).at) (get_or cuts n d).kept
    + (o - (get_or cuts n d).at - min (o - (get_or cuts n d).at) (get_or cuts n d).whole))
    × (new_offset cuts (get_or cuts n d).at ≤ (get_or cuts n d).at)
unfolding new_offset
by_cut cuts n o d apart lt before next =
    let is = follow 0 cuts apart (λ x some. omega arith) in
    let c : Cut = get_or cuts n d in
    let both = sums 0 cuts n o d is lt before next in
    let w = both.0 in
    let k = both.1 in
    let most = most_before 0 c.at cuts is (omega arith) in
    (omega (arith, w, k, most), no_more cuts c.at apart)

-- cuts stand in order of offset
rising : (from : ℕ) (cuts : List Cut) (i j : ℕ) (d : Cut) → Follow from cuts → i ≤ j → j < length cuts → (get_or cuts i d).at ≤ (get_or cuts j d).at
rising from [] i j d is le lt = absurd (omega arith)
rising from (c ∷ cs) zero zero d is le lt = omega arith
rising from (c ∷ cs) zero (suc j) d is le lt =
    let later = after_first (c.at + c.whole) cs j d is.2 (omega arith) in
    omega (arith, later)
rising from (c ∷ cs) (suc i) zero d is le lt = absurd (omega arith)
rising from (c ∷ cs) (suc i) (suc j) d is le lt = rising (c.at + c.whole) cs i j d is.2 (omega arith) (omega arith)

pub in_order : (cuts : List Cut) (i j : ℕ) (d : Cut) → AreApart cuts → i ≤ j → j < length cuts → (get_or cuts i d).at ≤ (get_or cuts j d).at
in_order cuts i j d apart le lt = rising 0 cuts i j d (follow 0 cuts apart (λ x some. omega arith)) le lt

-- of what cuts lose no more lies between two offsets than there is between them
lost_between : (from x y : ℕ) (cuts : List Cut) → Follow from cuts → x ≤ y → whole_before cuts y + kept_before cuts x ≤ whole_before cuts x + kept_before cuts y + (y - x)
lost_between from x y [] is le = omega arith
lost_between from x y (c ∷ cs) is le =
    let low = is.0 in
    let most = is.1 in
    let e : ℕ = c.at + c.whole in
    let head : (k : ℕ) → whole_before (c ∷ cs) k ≡ min (k - c.at) c.whole + whole_before cs k = λ k. sum_by-cons (λ (x : Cut). min (k - x.at) x.whole) c cs in
    let held : (k : ℕ) → kept_before (c ∷ cs) k ≡ min (k - c.at) c.kept + kept_before cs k = λ k. sum_by-cons (λ (x : Cut). min (k - x.at) x.kept) c cs in
    elim (cases_lt y e) [
      | inl short ↦
          let a = none_before e y cs is.2 (omega arith) in
          let b = none_before e x cs is.2 (omega arith) in
          let a0 = a.0 in
          let a1 = a.1 in
          let b0 = b.0 in
          let b1 = b.1 in
          let own : min (y - c.at) c.whole + min (x - c.at) c.kept ≤ min (x - c.at) c.whole + min (y - c.at) c.kept + (y - x) = omega arith in
          omega (arith, head y, head x, held y, held x, a0, a1, b0, b1, own)
      | inr long ↦ elim (cases_lt x e) [
        | inl before ↦
            let rest = lost_between e e y cs is.2 long in
            let a = none_before e e cs is.2 (omega arith) in
            let b = none_before e x cs is.2 (omega arith) in
            let a0 = a.0 in
            let a1 = a.1 in
            let b0 = b.0 in
            let b1 = b.1 in
            let own : min (y - c.at) c.whole + min (x - c.at) c.kept ≤ min (x - c.at) c.whole + min (y - c.at) c.kept + (e - x) = omega arith in
            omega (arith, head y, head x, held y, held x, a0, a1, b0, b1, own, rest, long, before)
        | inr after ↦
            let rest = lost_between e x y cs is.2 le in
            let w : min (y - c.at) c.whole ≡ min (x - c.at) c.whole = omega arith in
            let k : min (y - c.at) c.kept ≡ min (x - c.at) c.kept = omega arith in
            omega (arith, head y, head x, held y, held x, w, k, rest)
      ]
    ]

-- new offsets rise with the old ones
pub new_rises : (cuts : List Cut) (x y : ℕ) → AreApart cuts → x ≤ y → new_offset cuts x ≤ new_offset cuts y
unfolding new_offset
new_rises cuts x y apart le =
    let is = follow 0 cuts apart (λ d some. omega arith) in
    let between = lost_between 0 x y cuts is le in
    let a = most_before 0 x cuts is (omega arith) in
    let b = most_before 0 y cuts is (omega arith) in
    omega (arith, between, a, b, le)
