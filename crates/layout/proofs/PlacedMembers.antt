-- The bytes of a member, from the cuts of its section.
use Rattle.std.proofs.Common.{◌≡◌, ℕ, ◌+◌, ◌≤◌, List, [], ◌∷◌, length, get_or, All, refl, sym, ◌∙◌, subst, inl, inr, arith}
use Rattle.std.proofs.lemmas.Bool.{cases_lt}
use Rattle.std.proofs.lemmas.List.Elements.{All-nil, All-head, All-tail, All-cons}
use Rattle.std.proofs.Math.ListN.{get_or-eq_default}
use Rattle.link_sections.specs.declared.cuts.Cut.{Cut as HeldCut}
use Rattle.link_sections.specs.declared.members.Content.{Content}
use Rattle.link_sections.specs.declared.members.Content.TheVariants.{Section, Pool as IsPool, Got}
use Rattle.link_sections.specs.Cuts.{Cut, new_offset}
use Rattle.link_sections.specs.CutsView.{AreCuts, IsPlacedCut, cut_view, cut_views}
use Rattle.output_sections.specs.declared.rows.Row.{Row}
use Rattle.layout.specs.Cutting.{laid_cuts}
use Rattle.layout.specs.Walk.{cuts_in, size_at}

-- without cuts nothing is gone
pub whole_size : (size : ℕ) → new_offset [] size ≡ size
unfolding new_offset
whole_size size = omega arith

pub no_cuts : AreCuts []
no_cuts = record {
  apart = record { kept = All-nil (λ c. c.kept ≤ c.whole); order = λ i d lt. absurd (omega (arith, lt)) };
  placed = All-nil (IsPlacedCut []);
}

pub row_cuts : (rows : List (List HeldCut)) (n : ℕ) → All AreCuts rows → AreCuts (get_or rows n [])
row_cuts rows n all =
    elim (cases_lt n (length rows)) [
      | inl lt ↦ all n [] lt
      | inr past ↦ subst AreCuts (sym (get_or-eq_default rows [] past)) no_cuts
    ]

-- what holds of plain cuts holds of those that are held
pub held_within : (size : ℕ) (cuts : List HeldCut) → All (λ c. c.at + c.whole ≤ size) (cut_views cuts) → All (λ h. h.at + h.whole ≤ size) cuts
held_within size [] all = All-nil (λ h. h.at + h.whole ≤ size)
held_within size (c ∷ cs) all =
    All-cons (λ h. h.at + h.whole ≤ size) c cs (All-head (λ x. x.at + x.whole ≤ size) (cut_view c) (cut_views cs) all)
    (held_within size cs (All-tail (λ x. x.at + x.whole ≤ size) (cut_view c) (cut_views cs) all))

-- a member that is no section, and a section without cuts
pub size_plain : (sizes : List (List Cut)) (start : ℕ) (row : Row) → ((n : ℕ) → row.content ≡ Section n → ⊥) → row.size ≡ size_at sizes start row
unfolding size_at
size_plain sizes start row other = by row.content refl
  where
    by : (content : Content) → row.content ≡ content → row.size ≡ new_offset (laid_cuts start (cuts_in sizes content)) row.size
    by (Section n) is = absurd (other n is)
    by (IsPool p) is = sym (whole_size row.size)
    by Got is = sym (whole_size row.size)

pub size_of_section : (sizes : List (List Cut)) (start n : ℕ) (row : Row) (cuts : List Cut) → row.content ≡ Section n → get_or sizes n [] ≡ cuts
    → new_offset (laid_cuts start cuts) row.size ≡ size_at sizes start row
unfolding size_at
size_of_section sizes start n row cuts is own = rw (is, own) refl

pub size_uncut : (sizes : List (List Cut)) (start n : ℕ) (row : Row) → row.content ≡ Section n → get_or sizes n [] ≡ [] → row.size ≡ size_at sizes start row
size_uncut sizes start n row is own = sym (whole_size row.size) ∙ size_of_section sizes start n row [] is own

pub no_length : (cuts : List HeldCut) → length cuts ≡ 0 → cuts ≡ []
no_length [] none = refl
no_length (c ∷ cs) none = absurd (omega (arith, none))
