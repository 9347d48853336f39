-- The pools so far.
use Rattle.std.specs.Prelude.{◌≡◌, ℕ, ◌+◌, ◌<◌, ◌≤◌, nat_lt, Bool, List, [], ◌∷◌, ◌++◌, length, map, slice_index_or, slice_set, All}
use Rattle.std.specs.List.{filter, range_with_len, sum_by}
use Rattle.lk_tables.specs.Files.{File}
use Rattle.lk_tables.specs.TablesView.{files_of}
use Rattle.link_sections.specs.declared.pieces.Merged.{Merged}
use Rattle.link_sections.specs.declared.pieces.Part.{Part}
use Rattle.link_sections.specs.Merging.{Site, merged_of, pool_number, pool_of, sites}
use Rattle.link_sections.specs.PoolViews.{merged_view, pool_views}
use Rattle.link_sections.specs.Pools.{AreInOrder, ArePiles, pool_bytes}
use Rattle.str_merge.specs.declared.filling.Filled.{Filled}
use Rattle.str_merge.specs.declared.placing.Placed.{Placed}
use Rattle.str_merge.specs.declared.pooling.Work.{Work}
use Rattle.str_merge.specs.Small.{site_room}
use Rattle.str_merge.specs.Works.{nth_site}

-- one pool more, of these pieces
pub record AddsPool (first : ℕ) (placed : Placed) (old new : Filled) : Type 0 where
  pub pools : new.pools.items ≡ old.pools.items ++ record { first = first; size = placed.size } ∷ []
  pub pieces : new.rows.pieces ≡ old.rows.pieces ++ placed.pieces.items ∷ []
  pub parts : new.rows.parts ≡ old.rows.parts
  pub answers : new.answers.items ≡ old.answers.items

-- what is merged of sections one after the other: they are of one pool, and the first one's parts are the row of this number
abbrev pub with_answers : List Merged → (members : List ℕ) → (pool row : ℕ) → List Merged
with_answers answers [] pool row = answers
with_answers answers (m ∷ members) pool row = with_answers (slice_set answers m (record { pool = pool; row = row })) members pool (row + 1)

-- the parts of the sections of a pool more
pub record AddsParts (members : List ℕ) (pool : ℕ) (lists : List (List Part)) (old new : Filled) : Type 0 where
  pub pools : new.pools.items ≡ old.pools.items
  pub pieces : new.rows.pieces ≡ old.rows.pieces
  pub parts : new.rows.parts ≡ old.rows.parts ++ lists
  pub answers : new.answers.items ≡ with_answers old.answers.items members pool (length old.rows.parts)

abbrev pub no_merged : Merged
no_merged = record { pool = 0; row = 0 }

-- what is merged of the section at a place of the list is known
pub record IsAnswered (w : Work) (parts : List (List Part)) (answers : List Merged) (i : ℕ) : Type 0 where
  pub row : (slice_index_or answers i no_merged).row < length parts
  pub merged : merged_view parts (slice_index_or answers i no_merged) ≡ merged_of (files_of w.tables.now) w.kept.now (nth_site (files_of w.tables.now) w.kept.now i)

-- what is merged of the sections of one pool more is known
pub record AreAnswered (w : Work) (members : List ℕ) (old new : Filled) : Type 0 where
  pub pools : new.pools.items ≡ old.pools.items
  pub pieces : new.rows.pieces ≡ old.rows.pieces
  pub rows : length new.rows.parts ≡ length old.rows.parts + length members
  pub count : length new.answers.items ≡ length old.answers.items
  pub ordered : All AreInOrder old.rows.parts → All AreInOrder new.rows.parts
  pub keeps : (i : ℕ) → IsAnswered w old.rows.parts old.answers.items i → IsAnswered w new.rows.parts new.answers.items i
  pub adds : All (IsAnswered w new.rows.parts new.answers.items) members

-- the sections of the first pools
unfoldable pub sites_below : List File → List Bool → (pools : ℕ) → List Site
sites_below files kept pools = filter (λ s. nat_lt (pool_number files kept s) pools) (sites files kept)

-- the first pools are filled
pub record IsFilledTo (w : Work) (pools : ℕ) (filled : Filled) : Type 0 where
  pub pools_are : pool_views (files_of w.tables.now) filled.pools.items filled.rows.pieces ≡ map (pool_of (files_of w.tables.now) w.kept.now) (range_with_len 0 pools)
  pub paired : length filled.pools.items ≡ length filled.rows.pieces
  pub piled : ArePiles filled.pools.items filled.rows.pieces
  pub rows : length filled.rows.parts ≤ length (sites_below (files_of w.tables.now) w.kept.now pools)
  pub room : pool_bytes filled.pools.items ≤ sum_by (site_room (files_of w.tables.now)) (sites_below (files_of w.tables.now) w.kept.now pools)
  pub ordered : All AreInOrder filled.rows.parts
  pub count : length filled.answers.items ≡ length w.sites.now
  pub answered : (i : ℕ) → i < length w.sites.now → pool_number (files_of w.tables.now) w.kept.now (nth_site (files_of w.tables.now) w.kept.now i) < pools →
      IsAnswered w filled.rows.parts filled.answers.items i
