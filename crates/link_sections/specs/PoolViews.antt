-- Pools of merged pieces as plain lists.
use Rattle.std.specs.Prelude.{ℕ, Bool, Option, None, is_some, option_map, List, [], ◌∷◌, map, slice_index_or}
use Rattle.std.specs.Borrow.{Bor}
use Rattle.lk_tables.specs.Files.{File, file_at}
use Rattle.lk_tables.specs.Names.{text_of}
use Rattle.link_sections.specs.declared.pieces.Merged.{Merged as HeldMerged}
use Rattle.link_sections.specs.declared.pieces.Part.{Part}
use Rattle.link_sections.specs.declared.pieces.Piece.{Piece}
use Rattle.link_sections.specs.declared.pools.Pool.{Pool}
use Rattle.link_sections.specs.declared.pools.Pools.{Pools}
use Rattle.link_sections.specs.Pools.{part_rows, piece_lists}

-- a pool: its first section, its pieces, where each stands in it, and its bytes
pub record PoolView : Type 0 where
  pub first : ℕ
  pub pieces : List (List ℕ)
  pub positions : List ℕ
  pub size : ℕ

-- a section that is merged: its pool, and which piece of this each of its own is, in order
pub record Merged : Type 0 where
  pub pool : ℕ
  pub parts : List Part

-- the pools in order of their first sections, and by section number those that are merged
pub record PoolsView : Type 0 where
  pub pools : List PoolView
  pub merged : List (Option Merged)

-- the pools of a link, each by its first section and its bytes
abbrev pub pool_list : Pools → List Pool
pool_list pools = pools.pools.items

abbrev pub piece_text : List File → Piece → List ℕ
piece_text files p = text_of (file_at files p.text.file).bytes p.text

abbrev pub pool_view : List File → Pool → List Piece → PoolView
pool_view files pool pieces = record {
  first = pool.first;
  pieces = map (piece_text files) pieces;
  positions = map (λ (p : Piece). p.position) pieces;
  size = pool.size;
}

-- pools, each with its row of pieces
abbrev pub pool_views : List File → List Pool → List (List Piece) → List PoolView
pool_views files [] rows = []
pool_views files (pool ∷ pools) [] = pool_view files pool [] ∷ pool_views files pools []
pool_views files (pool ∷ pools) (row ∷ rows) = pool_view files pool row ∷ pool_views files pools rows

-- what the layout asks of pools: their first sections and their bytes
abbrev pub pool_head : PoolView → Pool
pool_head v = record { first = v.first; size = v.size }

unfoldable pub pool_heads : PoolsView → List Pool
pool_heads v = map pool_head v.pools

-- what is merged, with the parts of each section in place of their list's number
abbrev pub merged_view : List (List Part) → HeldMerged → Merged
merged_view rows m = record { pool = m.pool; parts = slice_index_or rows m.row [] }

unfoldable pub merged_by : List (List Part) → List (Option HeldMerged) → List (Option Merged)
merged_by rows list = map (option_map (merged_view rows)) list

abbrev pub piece_rows : Pools → List (List Piece)
piece_rows pools = piece_lists pools.rows

abbrev pub merged_views : Pools → List (Option Merged)
merged_views pools = merged_by (part_rows pools.rows) pools.merged.items

unfoldable pub pools_view : List File → Pools → PoolsView
pools_view files pools = record {
  pools = pool_views files (pool_list pools) (piece_rows pools);
  merged = merged_views pools;
}

-- what a section becomes, and whether it is merged
abbrev pub merged_at : List (Option Merged) → (section : ℕ) → Option Merged
merged_at merged section = slice_index_or merged section None

abbrev pub is_merged : List (Option Merged) → (section : ℕ) → Bool
is_merged merged section = is_some (merged_at merged section)

-- a pool's number and parts that are lent
abbrev pub merged_of : (ℕ × Bor (List Part)) → Merged
merged_of of = record { pool = of.0; parts = of.1.now }
