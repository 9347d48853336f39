-- The pools of a link: equal pieces of the sections of one pool stand in it once.
use Rattle.std.specs.Prelude.{ℕ, ◌+◌, ◌==◌, Bool, ◌&&◌, Option, Some, None, if◌then◌else◌, List, [], ◌∷◌, length, map, flat_map, slice_index_or, sum}
use Rattle.std.specs.List.{filter, range_with_len, position_or_len}
use Rattle.std.specs.Str.{bytes_eq}
use Rattle.lk_base.specs.Arithmetic.{up}
use Rattle.lk_tables.specs.Files.{File, file_at, section_no, section_count, by_section, writes}
use Rattle.lk_tables.specs.Sites.{place_of}
use Rattle.link_sections.specs.declared.pieces.Part.{Part}
use Rattle.link_sections.specs.Distinct.{distinct}
use Rattle.link_sections.specs.Leaders.{is_kept}
use Rattle.link_sections.specs.MergeSections.{PoolKey, is_mergeable, pieces_in, pool_key, same_key}
use Rattle.link_sections.specs.PoolViews.{PoolView, PoolsView, Merged}

-- a section that is merged: its number, its file and its index there
pub record Site : Type 0 where
  pub section : ℕ
  pub file : ℕ
  pub index : ℕ

abbrev pub no_site : Site
no_site = record { section = 0; file = 0; index = 0 }

-- pieces one after the other, each at a multiple of the alignment: where each stands, and where the last one ends
abbrev pub positions_from : (align end : ℕ) → List (List ℕ) → List ℕ
positions_from align end [] = []
positions_from align end (piece ∷ pieces) = up end align ∷ positions_from align (up end align + length piece) pieces

abbrev pub end_from : (align end : ℕ) → List (List ℕ) → ℕ
end_from align end [] = end
end_from align end (piece ∷ pieces) = end_from align (up end align + length piece) pieces

-- the number of a piece among those of its pool
unfoldable pub piece_number : (pool : List (List ℕ)) → (piece : List ℕ) → ℕ
piece_number pool piece = position_or_len (λ known. bytes_eq known piece) pool

-- the pieces of a section, one after the other from an offset on, by their numbers
abbrev pub parts_from : (pool : List (List ℕ)) → (start : ℕ) → List (List ℕ) → List Part
parts_from pool start [] = []
parts_from pool start (piece ∷ pieces) = record { start = start; piece = piece_number pool piece } ∷ parts_from pool (start + length piece) pieces

module _ (files : List File) where
  abbrev pub site_key : Site → PoolKey
  site_key s = pool_key (file_at files s.file) s.index

  abbrev pub site_pieces : Site → List (List ℕ)
  site_pieces s = pieces_in (file_at files s.file) s.index

  unfoldable pub same_pool : Site → Site → Bool
  same_pool s t = same_key (site_key s) (site_key t)

module _ (files : List File) (kept : List Bool) where
  -- section k of file f is merged
  unfoldable pub is_merge : (f k : ℕ) → Bool
  is_merge f k = is_kept kept (section_no files f k) && is_mergeable (file_at files f) k

  unfoldable pub is_merge_section : (section : ℕ) → Bool
  is_merge_section section = is_merge (place_of files section).file (place_of files section).index

  -- all of them, in order of number
  abbrev pub site : (f k : ℕ) → Site
  site f k = record { section = section_no files f k; file = f; index = k }

  unfoldable pub site_at : (f k : ℕ) → List Site
  site_at f k = if is_merge f k then site f k ∷ [] else []

  unfoldable pub sites_in : (f : ℕ) → List Site
  sites_in f = flat_map (site_at f) (range_with_len 0 (section_count (file_at files f)))

  unfoldable pub sites : List Site
  sites = flat_map sites_in (range_with_len 0 (length files))

  -- the first section of each pool, and the number of a section's pool
  unfoldable pub pool_sites : List Site
  pool_sites = distinct (same_pool files) no_site sites

  unfoldable pub pool_number : Site → ℕ
  pool_number s = position_or_len (λ first. same_pool files first s) pool_sites

  -- the sections of pool number p, and the distinct pieces of these by first appearance
  unfoldable pub pool_members : (p : ℕ) → List Site
  pool_members p = filter (λ s. pool_number s == p) sites

  unfoldable pub pool_pieces : (p : ℕ) → List (List ℕ)
  pool_pieces p = distinct bytes_eq [] (flat_map (site_pieces files) (pool_members p))

  -- its first section, from which it takes its alignment
  abbrev pub pool_site : (p : ℕ) → Site
  pool_site p = slice_index_or pool_sites p no_site

  unfoldable pub pool_of : (p : ℕ) → PoolView
  pool_of p = record {
    first = (pool_site p).section;
    pieces = pool_pieces p;
    positions = positions_from (site_key files (pool_site p)).align 0 (pool_pieces p);
    size = end_from (site_key files (pool_site p)).align 0 (pool_pieces p);
  }

  -- what a section becomes that is merged
  unfoldable pub merged_of : Site → Merged
  merged_of s = record { pool = pool_number s; parts = parts_from (pool_pieces (pool_number s)) 0 (site_pieces files s) }

  unfoldable pub merged_in : (f k : ℕ) → Option Merged
  merged_in f k = if is_merge f k then Some (merged_of (site f k)) else None

  unfoldable pub pools_of : PoolsView
  pools_of = record { pools = map pool_of (range_with_len 0 (length pool_sites)); merged = by_section files merged_in }

module _ (files : List File) where
  -- how many pieces section k of file f has, if it is written and would be merged if it is kept
  unfoldable pub pieces_at : (f k : ℕ) → ℕ
  pieces_at f k = if writes (file_at files f) k && is_mergeable (file_at files f) k then length (pieces_in (file_at files f) k) else 0

  -- how many all sections have
  unfoldable pub piece_count : ℕ
  piece_count = sum (by_section files pieces_at)
