-- The pieces of one pool.
use Rattle.std.specs.Prelude.{◌≡◌, ℕ, ◌<◌, ◌^◌, Bool, Option, IfSome, List, length, map, flat_map, slice_index_or}
use Rattle.lk_tables.specs.Files.{File}
use Rattle.lk_tables.specs.TablesView.{files_of}
use Rattle.link_sections.specs.declared.pieces.Part.{Part}
use Rattle.link_sections.specs.declared.pieces.Piece.{Piece}
use Rattle.link_sections.specs.declared.pools.Pool.{Pool}
use Rattle.link_sections.specs.Merging.{end_from, merged_of, pool_members, pool_pieces, pool_site, positions_from, site_key, site_pieces}
use Rattle.link_sections.specs.PoolViews.{piece_text}
use Rattle.link_sections.specs.Pools.{IsPile}
use Rattle.name_numbers.specs.Texts.{text_numbers}
use Rattle.str_merge.specs.declared.cuts.Cut.{Cut}
use Rattle.str_merge.specs.declared.placing.Placed.{Placed}
use Rattle.str_merge.specs.declared.pooling.Pooled.{Pooled}
use Rattle.str_merge.specs.declared.pooling.Work.{Work}
use Rattle.str_merge.specs.Orders.{IsFirstOf, firsts, ranks}
use Rattle.str_merge.specs.Parts.{lists_at, part_lists}
use Rattle.str_merge.specs.Placing.{IsPlaced}
use Rattle.str_merge.specs.Sites.{cut_views, gathered, piece_lists}
use Rattle.str_merge.specs.Works.{members_at, nth_site}

abbrev pub pool_align : List File → List Bool → (pool : ℕ) → ℕ
pool_align files kept pool = (site_key files (pool_site files kept pool)).align

-- the pieces of the sections of a pool, and for each the number of the first that is equal to it
pub record AreNumbered (files : List File) (kept : List Bool) (pool : ℕ) (texts : List (List ℕ)) (numbers : List ℕ) : Type 0 where
  pub texts_are : texts ≡ flat_map (site_pieces files) (pool_members files kept pool)
  pub numbers_are : numbers ≡ text_numbers texts
  pub few : length texts < 2 ^ 31

-- the distinct ones, each at its place
pub record IsPooled (files : List File) (kept : List Bool) (pool : ℕ) (placed : Placed) : Type 0 where
  pub pieces_are : map (piece_text files) placed.pieces.items ≡ pool_pieces files kept pool
  pub positions_are : map (λ (piece : Piece). piece.position) placed.pieces.items ≡ positions_from (pool_align files kept pool) 0 (pool_pieces files kept pool)
  pub size_is : placed.size ≡ end_from (pool_align files kept pool) 0 (pool_pieces files kept pool)
  pub piled : (q : Pool) → q.size ≡ placed.size → IsPile q placed.pieces.items

-- what becomes of the pieces of the sections at these places: those that have their own numbers are placed, and the sections have their
-- parts, if the numbers are those of first elements
pub record IsMadeOf (cuts : List Cut) (members : List ℕ) (numbers : List ℕ) (align : ℕ) (p : Pooled) : Type 0 where
  pub placed : IsPlaced (gathered (piece_lists cuts) members) (firsts numbers) align p.placed
  pub parts : IsFirstOf numbers → p.parts ≡ part_lists (lists_at (cut_views cuts) members) (ranks numbers)

-- the parts of the section at a place of the list
abbrev pub own_parts : List File → List Bool → (i : ℕ) → List Part
own_parts files kept i = (merged_of files kept (nth_site files kept i)).parts

-- what becomes of the pieces of a pool, whose sections are at these places
pub record IsPoolOf (w : Work) (pool : ℕ) (members : List ℕ) (p : Pooled) : Type 0 where
  pub placed : IsPooled (files_of w.tables.now) w.kept.now pool p.placed
  pub parts : p.parts ≡ map (own_parts (files_of w.tables.now) w.kept.now) members

-- what becomes of the pieces of a pool, if it is there
abbrev pub IsReady : Work → (pool : ℕ) → Option Pooled → Type 0
IsReady w pool known = IfSome known (IsPoolOf w pool (members_at (files_of w.tables.now) w.kept.now pool))

-- what becomes of the pieces of each pool, if it is there
pub record AreReady (w : Work) (list : List (Option Pooled)) : Type 0 where
  pub count : length list ≡ length w.firsts.now
  pub each : (p : ℕ) (d : Option Pooled) → p < length list → IsReady w p (slice_index_or list p d)
