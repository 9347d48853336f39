-- What the layout asks of pools, by their view.
use Rattle.std.proofs.Common.{◌≡◌, List, [], ◌∷◌, map, refl, ap}
use Rattle.lk_tables.specs.Files.{File}
use Rattle.link_sections.specs.declared.pieces.Piece.{Piece}
use Rattle.link_sections.specs.declared.pools.Pool.{Pool}
use Rattle.link_sections.specs.declared.pools.Pools.{Pools}
use Rattle.link_sections.specs.PoolViews.{piece_rows, pool_head, pool_heads, pool_views, pools_view}

heads_are : (files : List File) (pools : List Pool) (rows : List (List Piece)) → map pool_head (pool_views files pools rows) ≡ pools
heads_are files [] rows = refl
heads_are files (pool ∷ pools) [] = ap (λ (ps : List Pool). pool ∷ ps) (heads_are files pools [])
heads_are files (pool ∷ pools) (row ∷ rows) = ap (λ (ps : List Pool). pool ∷ ps) (heads_are files pools rows)

-- they are those that the code holds
pub pool_heads_are : (files : List File) (pools : Pools) → pool_heads (pools_view files pools) ≡ pools.pools.items
unfolding pool_heads pools_view
pool_heads_are files pools = heads_are files pools.pools.items (piece_rows pools)
