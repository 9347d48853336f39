-- Pools of merged pieces, by their first sections.
use Rattle.std.specs.Prelude.{ℕ, ◌+◌, ◌<◌, ◌≤◌, Option, Some, None, List, [], length, map, slice_index_or, All}
use Rattle.std.specs.List.{sum_by}
use Rattle.std.specs.List.Sorted.{IsNonDecreasingBy, IsStrictlyIncreasing}
use Rattle.link_sections.specs.declared.pieces.Part.{Part}
use Rattle.link_sections.specs.declared.pieces.Piece.{Piece}
use Rattle.link_sections.specs.declared.pieces.PieceRows.{PieceRows}
use Rattle.link_sections.specs.declared.pools.Pool.{Pool}

-- each pool's first section comes after that of the pool before
abbrev pub AreRising : List Pool → Type 0
AreRising pools = IsStrictlyIncreasing (map (λ p. p.first) pools)

-- their bytes together
abbrev pub pool_bytes : List Pool → ℕ
pool_bytes pools = sum_by (λ p. p.size) pools

-- the pieces of a pool stand one after the other in it
pub record IsPile (pool : Pool) (pieces : List Piece) : Type 0 where
  pub inside : All (λ (p : Piece). p.position + p.text.len ≤ pool.size) pieces
  pub order : (i : ℕ) (d : Piece) → i + 1 < length pieces →
      (slice_index_or pieces i d).position + (slice_index_or pieces i d).text.len ≤ (slice_index_or pieces (i + 1) d).position

abbrev pub ArePiles : List Pool → List (List Piece) → Type 0
ArePiles pools rows = (i : ℕ) (d : Pool) → i < length pools → IsPile (slice_index_or pools i d) (slice_index_or rows i [])

-- the lists of pieces
abbrev pub piece_lists : Option PieceRows → List (List Piece)
piece_lists None = []
piece_lists (Some rows) = rows.pieces

-- the parts of a section, in order of their offsets
abbrev pub AreInOrder : List Part → Type 0
AreInOrder parts = IsNonDecreasingBy (λ (p : Part). p.start) parts

-- the parts of the sections that are merged
abbrev pub part_rows : Option PieceRows → List (List Part)
part_rows None = []
part_rows (Some rows) = rows.parts
