-- Sums along the cuts of a section.
use Rattle.std.proofs.Common.{◌≡◌, ℕ, zero, suc, ◌+◌, ◌-◌, ◌<◌, ◌≤◌, List, [], ◌∷◌, min, drop, get_or, length, false, arith}
use Rattle.std.specs.List.{sum_by}
use Rattle.std.proofs.lemmas.List.Sums.{sum_by-cons}
use Rattle.link_sections.specs.declared.cuts.Cut.{Cut as HeldCut}
use Rattle.link_sections.specs.Cuts.{Cut, kept_before}
use Rattle.link_sections.specs.CutsView.{cut_view, cut_views}
use Rattle.layout.specs.CutsSoFar.{all_kept}

-- what is kept before an offset is not more than all that is kept
pub kept_most : (cuts : List Cut) (o : ℕ) → kept_before cuts o ≤ all_kept cuts
kept_most [] o = omega arith
kept_most (c ∷ cs) o = omega (arith, sum_by-cons (λ c. min (o - c.at) c.kept) c cs, sum_by-cons (λ c. c.kept) c cs, kept_most cs o)

abbrev pub all_whole : List Cut → ℕ
all_whole cuts = sum_by (λ c. c.whole) cuts

-- a sum has room for each of its terms
pub room_of_one : (f : Cut → ℕ) (cuts : List HeldCut) (i acc total : ℕ) (d : HeldCut) → i < length cuts
    → acc + sum_by f (cut_views (drop i cuts)) ≡ total → acc + f (cut_view (get_or cuts i d)) ≤ total
room_of_one f [] i acc total d lt is = absurd (omega (arith, lt))
room_of_one f (c ∷ cs) zero acc total d lt is = omega (arith, sum_by-cons f (cut_view c) (cut_views cs), is)
room_of_one f (c ∷ cs) (suc i) acc total d lt is = room_of_one f cs i acc total d (omega (arith, lt)) is

abbrev pub no_cut : HeldCut
no_cut = record { at = 0; whole = 0; kept = 0; is_align = false; new_at = 0 }
