-- Where the pieces of several sections stand, one section after the other.
use Rattle.std.specs.Prelude.{◌≡◌, ℕ, ◌-◌, ◌<◌, ◌≤◌, List, [], length, drop, slice_index_or}
use Rattle.str_merge.specs.declared.gathering.Place.{Place}
use Rattle.str_merge.specs.Sites.{CutPiece, gathered, no_piece}

-- what is left after so many elements is that of the lists from a place on
abbrev pub IsPlace : {X : Type 0} → List (List X) → (places : List ℕ) → Place → Type 0
IsPlace lists places p = drop p.before (gathered lists places) ≡ gathered lists (drop p.section places)

-- element i stands in the list of this place
pub record IsFound {X : Type 0} (lists : List (List X)) (places : List ℕ) (i : ℕ) (p : Place) : Type 0 where
  pub place : IsPlace lists places p
  pub within : p.section < length places
  pub from : p.before ≤ i
  pub below : i - p.before < length (slice_index_or lists (slice_index_or places p.section 0) [])

-- the element of an index, if there is one
abbrev pub piece_at : List CutPiece → (i : ℕ) → CutPiece
piece_at pieces i = slice_index_or pieces i no_piece
