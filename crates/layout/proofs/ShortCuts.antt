-- The alignments that need more bytes than they have.
use Rattle.std.proofs.Common.{◌≡◌, ℕ, ◌+◌, ◌%◌, ◌<◌, ◌≤◌, ◌==◌, ◌&&◌, ◌||◌, not, nat_lt, Bool, true, false, List, [], ◌∷◌, drop, get_or, length, refl, ap, sym, ◌∙◌, All, inl, inr, arith}
use Rattle.std.proofs.lemmas.Bool.{cases_Bool}
use Rattle.std.proofs.lemmas.Bool.Decides.{nat_tests}
use Rattle.std.proofs.lemmas.List.{drop_more}
use Rattle.std.proofs.lemmas.List.Elements.{All-nil, All-head, All-tail, All-cons}
use Rattle.lk_base.specs.declared.defects.Defect.{Defect}
use Rattle.lk_base.specs.Firsts.{BeginsWith}
use Rattle.lk_tables.specs.declared.section_places.SectionPlace.{SectionPlace}
use Rattle.link_sections.specs.declared.cuts.Cut.{Cut as HeldCut}
use Rattle.link_sections.specs.Cuts.{Cut}
use Rattle.link_sections.specs.CutsView.{cut_view, cut_views}
use Rattle.layout.specs.Cutting.{is_short, short_defect, short_defects}

short_first : (place : SectionPlace) (c : Cut) (cs : List Cut) → is_short c ≡ true → short_defects place (c ∷ cs) ≡ short_defect place c ∷ short_defects place cs
short_first place c cs short = rw short refl

pub short_found : (place : SectionPlace) (laid : List HeldCut) (i : ℕ) (d : HeldCut) (whole : List Defect) → i < length laid → is_short (cut_view (get_or laid i d)) ≡ true
    → short_defects place (cut_views (drop i laid)) ≡ whole → BeginsWith whole (short_defect place (cut_view (get_or laid i d)))
short_found place laid i d whole lt short is = (
  short_defects place (cut_views (drop (i + 1) laid)),
  sym is ∙ ap (λ l. short_defects place (cut_views l)) (drop_more laid i d lt) ∙ short_first place (cut_view (get_or laid i d)) (cut_views (drop (i + 1) laid)) short,
)

-- without one each cut keeps no more than it has, where those that are no alignments do so
not_short : (c : Cut) → is_short c ≡ false → (c.is_align ≡ false → c.kept ≤ c.whole) → c.kept ≤ c.whole
unfolding is_short
not_short c fine others =
    elim (cases_Bool c.is_align) [
      | inr other ↦ others other
      | inl align ↦
          elim (cases_Bool (nat_lt c.whole c.kept)) [
            | inl more ↦ absurd (no c.is_align (not (c.kept % 2 == 0)) (nat_lt c.whole c.kept) fine align more)
            | inr most ↦ grind (arith, nat_tests)
          ]
    ]
  where
    no : (a b e : Bool) → (a && (b || e)) ≡ false → a ≡ true → e ≡ true → ⊥
    no true true true fine align more = cc
    no true false true fine align more = cc
    no true b false fine align more = cc
    no false b e fine align more = cc

pub none_short : (place : SectionPlace) (cuts : List Cut) → short_defects place cuts ≡ [] → All (λ c. c.is_align ≡ false → c.kept ≤ c.whole) cuts → All (λ c. c.kept ≤ c.whole) cuts
none_short place [] none others = All-nil (λ c. c.kept ≤ c.whole)
none_short place (c ∷ cs) none others =
    elim (cases_Bool (is_short c)) [
      | inl short ↦ absurd (let two : short_defect place c ∷ short_defects place cs ≡ [] = sym (short_first place c cs short) ∙ none in cc)
      | inr fine ↦
          All-cons (λ c. c.kept ≤ c.whole) c cs (not_short c fine (All-head (λ c. c.is_align ≡ false → c.kept ≤ c.whole) c cs others))
          (none_short place cs (later fine none) (All-tail (λ c. c.is_align ≡ false → c.kept ≤ c.whole) c cs others))
    ]
  where
    later : is_short c ≡ false → short_defects place (c ∷ cs) ≡ [] → short_defects place cs ≡ []
    later fine is = rw fine at is
