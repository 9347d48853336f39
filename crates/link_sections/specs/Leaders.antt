-- Which section is written in the place of each: without folding each kept section itself. The bytes of merged sections stand in pools, so
-- these have no leader.
use Rattle.std.specs.Prelude.{ℕ, ◌&&◌, not, Bool, false, Option, Some, None, unwrap_or, if◌then◌else◌, List, [], ◌∷◌, map, length, slice_index_or, slice_set}
use Rattle.std.specs.List.{range_with_len}
pub use Rattle.lk_tables.specs.Frames.{is_number}
use Rattle.link_sections.specs.FoldItems.{FoldItem}
use Rattle.link_sections.specs.PoolViews.{Merged, is_merged}

-- a section that is kept, by its number
abbrev pub is_kept : (kept : List Bool) → (section : ℕ) → Bool
is_kept kept section = slice_index_or kept section false

-- each kept section that is not merged is its own leader; each other has no leader
unfoldable pub own_leaders : (kept : List Bool) → (merged : List (Option Merged)) → List (Option ℕ)
own_leaders kept merged = map (λ n. if is_kept kept n && not (is_merged merged n) then Some n else None) (range_with_len 0 (length kept))

-- the section of the item at a place of a list; 0 past its end
abbrev pub section_at : List FoldItem → (place : ℕ) → ℕ
section_at items place = slice_index_or (map (λ (i : FoldItem). i.section) items) place 0

-- folded sections have the leader of their item, by its place in the list of all items
abbrev pub fold_each : List FoldItem → (sections places : List ℕ) → List (Option ℕ) → List (Option ℕ)
fold_each items [] places leaders = leaders
fold_each items (n ∷ ns) [] leaders = leaders
fold_each items (n ∷ ns) (p ∷ ps) leaders = fold_each items ns ps (slice_set leaders n (Some (section_at items p)))

unfoldable pub folded_leaders : List FoldItem → (places : List ℕ) → List (Option ℕ) → List (Option ℕ)
folded_leaders items places leaders = fold_each items (map (λ (i : FoldItem). i.section) items) places leaders

abbrev pub leader_at : (leaders : List (Option ℕ)) → (section : ℕ) → Option ℕ
leader_at leaders section = slice_index_or leaders section None

-- the section that stands in the place of a section; itself if it has no leader
abbrev pub leader_of : (leaders : List (Option ℕ)) → (section : ℕ) → ℕ
leader_of leaders section = unwrap_or (leader_at leaders section) section

-- a section is its own leader, so that its bytes are written
abbrev pub leads : (leaders : List (Option ℕ)) → (section : ℕ) → Bool
leads leaders section = is_number (leader_at leaders section) section
