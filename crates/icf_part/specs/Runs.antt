-- Sorted numbers, and where their upper halves change.
use Rattle.std.specs.Prelude.{ℕ, ◌/◌, ◌<◌, ◌≤◌, ◌^◌, List, length, slice_index}

pub record IsRising (words : List ℕ) : Type 0 where
  pub rises : (i j : ℕ) → i ≤ j → j < length words → slice_index words i ≤ slice_index words j

-- the upper halves before a place are lower than those from it on
pub record IsCut (words : List ℕ) (at : ℕ) : Type 0 where
  pub lower : (i j : ℕ) → i < at → at ≤ j → j < length words → slice_index words i / 2 ^ 32 < slice_index words j / 2 ^ 32
