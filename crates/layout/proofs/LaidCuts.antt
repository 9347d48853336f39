-- The cuts of a section once they are laid: they stand where they stood.
use Rattle.std.proofs.Common.{◌≡◌, ℕ, zero, suc, ◌+◌, ◌<◌, ◌≤◌, List, [], ◌∷◌, ◌++◌, get_or, length, false, All, refl, sym, ◌∙◌, subst, append_assoc, append-nil, arith}
use Rattle.std.proofs.lemmas.List.Elements.{All-nil, All-head, All-tail, All-cons}
use Rattle.link_sections.specs.declared.cuts.Cut.{Cut as HeldCut}
use Rattle.link_sections.specs.Cuts.{AreApart, Cut}
use Rattle.link_sections.specs.CutsView.{AreCuts, IsPlacedCut, cut_views}
use Rattle.lk_tables.specs.declared.section_places.SectionPlace.{SectionPlace}
use Rattle.layout.specs.Cutting.{cuts_after, kept_at, laid_cut, laid_cuts, short_defects}
use Rattle.layout.proofs.CutsPassed.{AreFrom, apart_from}
use Rattle.layout.proofs.ShortCuts.{none_short}

-- those that are laid after others
abbrev pub laid_rest : (start : ℕ) → (before : List Cut) → List Cut → List Cut
laid_rest start before [] = []
laid_rest start before (c ∷ cs) = laid_cut start before c ∷ laid_rest start (before ++ laid_cut start before c ∷ []) cs

after_rest : (start : ℕ) (before cuts : List Cut) → cuts_after start before cuts ≡ before ++ laid_rest start before cuts
after_rest start before [] = sym (append-nil before)
after_rest start before (c ∷ cs) =
    after_rest start (before ++ laid_cut start before c ∷ []) cs
    ∙ append_assoc before (laid_cut start before c ∷ []) (laid_rest start (before ++ laid_cut start before c ∷ []) cs)

pub laid_are : (start : ℕ) (cuts : List Cut) → laid_cuts start cuts ≡ laid_rest start [] cuts
laid_are start cuts = after_rest start [] cuts

same_place : (start : ℕ) (before : List Cut) (c : Cut) → ((laid_cut start before c).at ≡ c.at) × ((laid_cut start before c).whole ≡ c.whole)
unfolding laid_cut
same_place start before c = (refl, refl)

from_rest : (from start : ℕ) (before cuts : List Cut) → AreFrom from cuts → AreFrom from (laid_rest start before cuts)
from_rest from start before [] are = tt
from_rest from start before (c ∷ cs) are =
    let same = same_place start before c in (
      omega (arith, are.0, same.0),
      subst (λ k. AreFrom k (laid_rest start (before ++ laid_cut start before c ∷ []) cs)) (let e : c.at + c.whole ≡ (laid_cut start before c).at + (laid_cut start before c).whole = omega (arith, same.0, same.1) in e)
          (from_rest (c.at + c.whole) start (before ++ laid_cut start before c ∷ []) cs are.1),
    )

order_from : (from : ℕ) (cuts : List Cut) → AreFrom from cuts → (i : ℕ) (d : Cut) → i + 1 < length cuts → (get_or cuts i d).at + (get_or cuts i d).whole ≤ (get_or cuts (i + 1) d).at
order_from from [] are i d lt = absurd (omega (arith, lt))
order_from from (c ∷ []) are i d lt = absurd (omega (arith, lt))
order_from from (c ∷ e ∷ cs) are zero d lt = are.1.0
order_from from (c ∷ e ∷ cs) are (suc i) d lt =
    let next : suc i + 1 ≡ suc (i + 1) = omega arith in
    rw next (order_from (c.at + c.whole) (e ∷ cs) are.1 i d (omega (arith, lt)))

-- those that are no alignments keep no more than they have
kept_plain : (start : ℕ) (before : List Cut) (c : Cut) → c.kept ≤ c.whole → (laid_cut start before c).is_align ≡ false → (laid_cut start before c).kept ≤ (laid_cut start before c).whole
unfolding laid_cut kept_at
kept_plain start before c most other = rw other most

plain_rest : (start : ℕ) (before cuts : List Cut) → All (λ c. c.kept ≤ c.whole) cuts → All (λ c. c.is_align ≡ false → c.kept ≤ c.whole) (laid_rest start before cuts)
plain_rest start before [] most = All-nil (λ (c : Cut). c.is_align ≡ false → c.kept ≤ c.whole)
plain_rest start before (c ∷ cs) most =
    All-cons (λ (c : Cut). c.is_align ≡ false → c.kept ≤ c.whole) (laid_cut start before c) (laid_rest start (before ++ laid_cut start before c ∷ []) cs)
    (kept_plain start before c (All-head (λ (c : Cut). c.kept ≤ c.whole) c cs most))
    (plain_rest start (before ++ laid_cut start before c ∷ []) cs (All-tail (λ (c : Cut). c.kept ≤ c.whole) c cs most))

-- so where no alignment needs more than it has, the cuts are apart
pub laid_apart : (place : SectionPlace) (start : ℕ) (cuts : List Cut) → AreApart cuts → short_defects place (laid_cuts start cuts) ≡ [] → AreApart (laid_cuts start cuts)
laid_apart place start cuts apart none =
    let e = laid_are start cuts in
    let kept = none_short place (laid_rest start [] cuts) (rw e at none) (plain_rest start [] cuts apart.kept) in
    rw e (record { kept = kept; order = order_from 0 (laid_rest start [] cuts) (from_rest 0 start [] cuts (apart_from cuts apart)) })

pub laid_sound : (place : SectionPlace) (start : ℕ) (cuts laid : List HeldCut) → AreCuts cuts → cut_views laid ≡ laid_cuts start (cut_views cuts)
    → All (IsPlacedCut (cut_views laid)) laid → short_defects place (cut_views laid) ≡ [] → AreCuts laid
laid_sound place start cuts laid are views placed none = record {
  apart = rw views (laid_apart place start (cut_views cuts) are.apart (rw views at none));
  placed = placed;
}
