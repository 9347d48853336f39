-- Pools as plain lists are as many, and have the same bytes.
use Rattle.std.proofs.Common.{◌≡◌, ℕ, zero, suc, ◌<◌, List, [], ◌∷◌, get_or, length, refl, arith}
use Rattle.lk_tables.specs.Files.{File}
use Rattle.link_sections.specs.declared.pieces.Piece.{Piece}
use Rattle.link_sections.specs.declared.pools.Pool.{Pool}
use Rattle.link_sections.specs.declared.pools.Pools.{Pools}
use Rattle.link_sections.specs.Addresses.{no_pool}
use Rattle.link_sections.specs.PoolViews.{piece_rows, pool_views, pools_view}

count_of : (files : List File) (pools : List Pool) (rows : List (List Piece)) → length (pool_views files pools rows) ≡ length pools
count_of files [] rows = refl
count_of files (p ∷ ps) [] = omega (arith, count_of files ps [])
count_of files (p ∷ ps) (r ∷ rs) = omega (arith, count_of files ps rs)

size_of : (files : List File) (pools : List Pool) (rows : List (List Piece)) (p : ℕ) (d : Pool) → p < length pools
    → (get_or (pool_views files pools rows) p no_pool).size ≡ (get_or pools p d).size
size_of files [] rows p d lt = absurd (omega (arith, lt))
size_of files (q ∷ qs) [] zero d lt = refl
size_of files (q ∷ qs) (r ∷ rs) zero d lt = refl
size_of files (q ∷ qs) [] (suc p) d lt = size_of files qs [] p d (omega (arith, lt))
size_of files (q ∷ qs) (r ∷ rs) (suc p) d lt = size_of files qs rs p d (omega (arith, lt))

pub pools_seen : (files : List File) (pools : Pools) → length (pools_view files pools).pools ≡ length pools.pools.items
unfolding pools_view
pools_seen files pools = count_of files pools.pools.items (piece_rows pools)

pub sizes_seen : (files : List File) (pools : Pools) (p : ℕ) (d : Pool) → p < length pools.pools.items
    → (get_or (pools_view files pools).pools p no_pool).size ≡ (get_or pools.pools.items p d).size
unfolding pools_view
sizes_seen files pools p d lt = size_of files pools.pools.items (piece_rows pools) p d lt
