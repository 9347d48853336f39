-- Some of the items: those whose contents another item has. Any other is folded with none, and is its own leader.
use Rattle.std.specs.Prelude.{◌≡◌, ◌≢◌, ℕ, ◌<◌, ◌==◌, ◌||◌, not, Bool, false, true, Option, Some, List, [], ◌∷◌, length, map, slice_index, slice_index_or, slice_set}
use Rattle.std.specs.List.{filter, range_with_len}
use Rattle.link_sections.specs.declared.fold_items.FoldItem.{FoldItem as LentItem}
use Rattle.link_sections.specs.FoldItems.{FoldItem, item_views}
use Rattle.icf_part.specs.Folding.{item_at}

-- the items of some places
unfoldable pub items_at : List FoldItem → (chosen : List ℕ) → List FoldItem
items_at items chosen = map (item_at items) chosen

abbrev pub views_at : List LentItem → (chosen : List ℕ) → List FoldItem
views_at items chosen = items_at (item_views items) chosen

-- two of the items have one number exactly where their contents are equal
pub record AreContents (items : List FoldItem) (bytes : List ℕ) : Type 0 where
  pub wide : length bytes ≡ length items
  pub tells : (a b : ℕ) → a < length items → b < length items → slice_index bytes a ≡ slice_index bytes b → (item_at items a).bytes ≡ (item_at items b).bytes
  pub same : (a b : ℕ) → a < length items → b < length items → (item_at items a).bytes ≡ (item_at items b).bytes → slice_index bytes a ≡ slice_index bytes b

-- by number, whether one of the first n items has it that is not the first to have it
pub record AreMarked (bytes : List ℕ) (n : ℕ) (shared : List Bool) : Type 0 where
  pub wide : length shared ≡ length bytes
  pub all : (a : ℕ) → a < n → slice_index bytes a ≢ a → slice_index_or shared (slice_index bytes a) false ≡ true

-- an item's number is another's: it is not its own, or is marked
unfoldable pub is_shared : (bytes : List ℕ) → (shared : List Bool) → (a : ℕ) → Bool
is_shared bytes shared a = not (slice_index bytes a == a) || slice_index_or shared a false

-- places in order, and none but these has a number that another has
pub record AreShared (bytes list : List ℕ) : Type 0 where
  pub test : ℕ → Bool
  pub list_is : list ≡ filter test (range_with_len 0 (length bytes))
  pub alone : (a b : ℕ) → a < length bytes → b < length bytes → test a ≡ false → slice_index bytes b ≡ slice_index bytes a → b ≡ a

-- the chosen items are in order, and any other is alone with its contents
pub record AreChosen (items : List FoldItem) (chosen : List ℕ) : Type 0 where
  pub test : ℕ → Bool
  pub list_is : chosen ≡ filter test (range_with_len 0 (length items))
  pub alone : (a b : ℕ) → a < length items → b < length items → test a ≡ false → (item_at items b).bytes ≡ (item_at items a).bytes → b ≡ a

-- some of the items: they stand in order, and any other is alone with its contents
pub record AreSharers (items some : List FoldItem) : Type 0 where
  pub chosen : List ℕ
  pub among : AreChosen items chosen
  pub some_are : some ≡ items_at items chosen

-- sections that are their own leaders, one after the other
abbrev pub own_leading : (sections : List ℕ) → List (Option ℕ) → List (Option ℕ)
own_leading [] leaders = leaders
own_leading (n ∷ ns) leaders = own_leading ns (slice_set leaders n (Some n))

-- of n items the first k chosen ones have the leaders that these are among the chosen, and all others are their own leaders
pub record AreSpread (n : ℕ) (chosen : List ℕ) (k : ℕ) (leaders list : List ℕ) : Type 0 where
  pub wide : length list ≡ n
  pub each : (i : ℕ) → i < k → slice_index list (slice_index chosen i) ≡ slice_index chosen (slice_index leaders i)
  pub others : (a : ℕ) → a < n → ((i : ℕ) → i < k → slice_index chosen i ≢ a) → slice_index list a ≡ a
