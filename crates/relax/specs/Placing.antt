-- Cuts of a section, one after the other, and where each stands once the bytes before it are gone.
use Rattle.std.specs.Prelude.{◌≡◌, ℕ, ◌-◌, ◌<◌, ◌⊎◌, ◌&&◌, nat_lt, if◌then◌else◌, List, [], ◌∷◌, length, take, slice_index, slice_index_or, slice_set}
use Rattle.std.specs.List.{sum_by}
use Rattle.lk_tables.specs.declared.objects.Reloc.{Reloc}
use Rattle.output_sections.specs.declared.rows.Row.{Row}
use Rattle.output_sections.specs.Order.{is_section, own_section}
use Rattle.link_sections.specs.declared.cuts.Cut.{Cut as HeldCut}
use Rattle.link_sections.specs.Cuts.{Cut}
use Rattle.relax.specs.CallSizes.{cut_of, is_cut}

-- a size that a call may have
abbrev pub IsOneSize : ℕ → Type 0
IsOneSize size = (size ≡ 2) ⊎ ((size ≡ 4) ⊎ (size ≡ 8))

-- the cut that a relocation is, if it is one
unfoldable pub added : (size : ℕ) → Reloc → List Cut
added size r = if is_cut size r then cut_of size r ∷ [] else []

-- how many bytes cuts lose
abbrev pub lost_of : List HeldCut → ℕ
lost_of cuts = sum_by (λ c. c.whole - c.kept) cuts

-- each stands where it did, less what those before it lose
pub record ArePlaced (cuts : List HeldCut) (lost : ℕ) : Type 0 where
  pub sum : lost ≡ lost_of cuts
  pub each : (i : ℕ) (d : HeldCut) → i < length cuts → (slice_index_or cuts i d).new_at ≡ (slice_index_or cuts i d).at - lost_of (take i cuts)

-- places by section number, with that of a member that is a section, if none before it is noted
unfoldable pub noted : List ℕ → Row → (place : ℕ) → List ℕ
noted places m place = if is_section m && nat_lt place (slice_index places (own_section m)) then slice_set places (own_section m) place else places
