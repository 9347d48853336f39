-- What the cuts of a section leave of the bytes before an offset, as sums that a walk along the cuts keeps.
use Rattle.std.specs.Prelude.{◌≡◌, ℕ, ◌+◌, ◌-◌, ◌*◌, ◌≤◌, nat_lt, Bool, if◌then◌else◌, List}
use Rattle.std.specs.List.{sum_by}
use Rattle.link_sections.specs.declared.cuts.Cut.{Cut as HeldCut}
use Rattle.link_sections.specs.Cuts.{Cut, kept_before, new_offset, whole_before}
use Rattle.link_sections.specs.CutsView.{cut_view, cut_views}
use Rattle.layout.specs.Cutting.{kept_at}

-- how many bytes these cuts keep
abbrev pub all_kept : List Cut → ℕ
all_kept cuts = sum_by (λ c. c.kept) cuts

-- what a cut keeps reaches past an offset
abbrev pub reaches : (offset : ℕ) → HeldCut → Bool
reaches offset c = nat_lt (offset - c.at) c.kept

-- how many bytes the others of these cuts keep
abbrev pub kept_if_ended : (offset : ℕ) → HeldCut → ℕ
kept_if_ended offset c = if reaches offset c then 0 else c.kept

-- from an offset on, these cuts have `whole` bytes, and `kept` of them and what those of `reaching` keep stay
pub record IsPassed (before : List Cut) (from whole kept : ℕ) (reaching : List Cut) : Type 0 where
  pub wholes : (o : ℕ) → from ≤ o → whole_before before o ≡ whole
  pub kepts : (o : ℕ) → from ≤ o → kept_before before o ≡ kept + kept_before reaching o
  pub most : kept + all_kept reaching ≤ 2 * whole
  pub low : whole ≤ from

-- a cut once it is laid, after those before it
unfoldable pub placed_cut : (start : ℕ) → (before : List HeldCut) → HeldCut → HeldCut
placed_cut start before c = record {
  at = c.at;
  whole = c.whole;
  kept = kept_at start (cut_views before) (cut_view c);
  is_align = c.is_align;
  new_at = new_offset (cut_views before) c.at;
}
