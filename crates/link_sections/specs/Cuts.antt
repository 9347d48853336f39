-- Where a section loses bytes: a relaxed call and an alignment keep some of their bytes (RISC-V ELF psABI, "Linker Relaxation").
use Rattle.std.specs.Prelude.{ℕ, ◌+◌, ◌-◌, ◌<◌, ◌≤◌, Bool, min, List, length, slice_index_or, All}
use Rattle.std.specs.List.{sum_by}

-- of `whole` bytes from offset `at` on the first `kept` stay; in an alignment these are nops
pub record Cut : Type 0 where
  pub at : ℕ
  pub whole : ℕ
  pub kept : ℕ
  pub is_align : Bool

-- how many bytes before an offset belong to cuts, and how many of these stay
abbrev pub whole_before : List Cut → (offset : ℕ) → ℕ
whole_before cuts offset = sum_by (λ c. min (offset - c.at) c.whole) cuts

abbrev pub kept_before : List Cut → (offset : ℕ) → ℕ
kept_before cuts offset = sum_by (λ c. min (offset - c.at) c.kept) cuts

-- an offset once the bytes before it that do not stay are gone
unfoldable pub new_offset : List Cut → (offset : ℕ) → ℕ
new_offset cuts offset = offset + kept_before cuts offset - whole_before cuts offset

-- cuts in order of offset, one after the other, each keeping no more than it has
pub record AreApart (cuts : List Cut) : Type 0 where
  pub kept : All (λ c. c.kept ≤ c.whole) cuts
  pub order : (i : ℕ) (d : Cut) → i + 1 < length cuts → (slice_index_or cuts i d).at + (slice_index_or cuts i d).whole ≤ (slice_index_or cuts (i + 1) d).at
