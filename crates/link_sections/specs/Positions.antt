-- Where a piece stands in its pool, by the lists that hold pools and pieces.
use Rattle.std.specs.Prelude.{ℕ, nat_lt, List, [], length, map, slice_index, slice_index_or, if◌then◌else◌}
use Rattle.link_sections.specs.declared.pieces.Piece.{Piece}
use Rattle.link_sections.specs.declared.pools.Pool.{Pool}

abbrev pub position_at : List Pool → List (List Piece) → (pool piece : ℕ) → ℕ
position_at pools rows pool piece =
    if nat_lt pool (length pools) then slice_index (map (λ (p : Piece). p.position) (slice_index_or rows pool [])) piece else 0
