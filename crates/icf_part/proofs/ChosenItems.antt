-- Some of the items by their places.
use Rattle.std.proofs.Common.{◌≡◌, ℕ, ◌<◌, ◌≤◌, All, List, [], ◌∷◌, length, map, take, get_or, refl, sym, ap, ◌∙◌}
use Rattle.std.proofs.lemmas.List.{get_or-map, length-map}
use Rattle.lk_base.proofs.Loops.{mapped_all}
use Rattle.link_sections.specs.declared.fold_items.FoldItem.{FoldItem as LentItem}
use Rattle.link_sections.specs.FoldItems.{FoldItem, item_view, item_views}
use Rattle.icf_part.specs.Chosen.{items_at, views_at}
use Rattle.icf_part.specs.Folding.{item_at, no_item}
use Rattle.icf_part.proofs.PartSteps.{viewed_at}

pub items_wide : (items : List FoldItem) (chosen : List ℕ) → length (items_at items chosen) ≡ length chosen
unfolding items_at
items_wide items chosen = length-map chosen (item_at items)

pub chosen_at : (items : List FoldItem) (chosen : List ℕ) (k : ℕ) → k < length chosen → item_at (items_at items chosen) k ≡ item_at items (get_or chosen k 0)
unfolding items_at
chosen_at items chosen k lt = get_or-map (item_at items) chosen k 0 no_item lt

-- as they are lent
pub chosen_view : (items : List LentItem) (chosen : List ℕ) (k : ℕ) (x : LentItem) → All (λ a. a < length items) chosen → k < length chosen →
    x ≡ get_or items (get_or chosen k 0) x → item_view x ≡ item_at (views_at items chosen) k
chosen_view items chosen k x within lt is = viewed_at items (get_or chosen k 0) x (within k 0 lt) is ∙ sym (chosen_at (item_views items) chosen k lt)

-- something of each of them
map_map : {X Y : Type 0} (f : X → Y) (g : ℕ → X) (xs : List ℕ) → map (λ a. f (g a)) xs ≡ map f (map g xs)
map_map f g [] = refl
map_map f g (x ∷ xs) = ap (λ l. f (g x) ∷ l) (map_map f g xs)

pub chosen_all : {Y : Type 0} (f : FoldItem → Y) (items : List LentItem) (chosen : List ℕ) (i : ℕ) (list : List Y) → length chosen ≤ i →
    list ≡ map (λ a. f (item_at (item_views items) a)) (take i chosen) → list ≡ map f (views_at items chosen)
unfolding items_at
chosen_all f items chosen i list le held =
    mapped_all (λ a. f (item_at (item_views items) a)) chosen i list le held ∙ map_map f (item_at (item_views items)) chosen
