-- The cuts of each section of a list, and of one past its end.
use Rattle.std.proofs.Common.{ℕ, List, [], length, get_or, sym, subst, arith, inl, inr, ◌≡◌, zero, suc, ◌∷◌, map, refl}
use Rattle.std.specs.Prelude.{All}
use Rattle.std.proofs.lemmas.Bool.{cases_lt}
use Rattle.std.proofs.lemmas.List.{get_or_past}
use Rattle.link_sections.specs.declared.cuts.Cut.{Cut}
use Rattle.link_sections.specs.CutsView.{AreCuts, cut_views}

pub no_cuts : AreCuts []
no_cuts = record {
  apart = record { kept = λ i d lt. absurd (omega arith); order = λ i d lt. absurd (omega arith) };
  placed = λ i d lt. absurd (omega arith);
}

pub cuts_in : (rows : List (List Cut)) (n : ℕ) → All AreCuts rows → AreCuts (get_or rows n [])
cuts_in rows n all = elim (cases_lt n (length rows)) [
  | inl lt ↦ all n [] lt
  | inr past ↦ subst AreCuts (sym (get_or_past rows n [] past)) no_cuts
]

-- the row of a number, as plain cuts
pub row_view : (rows : List (List Cut)) (n : ℕ) → get_or (map cut_views rows) n [] ≡ cut_views (get_or rows n [])
row_view [] n = refl
row_view (r ∷ rs) zero = refl
row_view (r ∷ rs) (suc n) = row_view rs n
