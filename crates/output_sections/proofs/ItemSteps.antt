-- One more item after those that are collected, and the end of the walk over section numbers.
use Rattle.std.proofs.Common.{◌≡◌, ℕ, ◌+◌, List, [], ◌∷◌, ◌++◌, ap, ◌∙◌, append_assoc, flat_map}
use Rattle.std.specs.List.{range_with_len}
use Rattle.std.proofs.lemmas.List.{map-append}
use Rattle.lk_base.proofs.Loops.{flat_step}
use Rattle.output_sections.specs.declared.items.Item.{Item as HeldItem}
use Rattle.output_sections.specs.Items.{Item}
use Rattle.output_sections.specs.ItemViews.{item_view, items_view}

pub pushed : (old new : List HeldItem) (item : HeldItem) (one : Item) → new ≡ old ++ item ∷ [] → item_view item ≡ one → items_view new ≡ items_view old ++ one ∷ []
pushed old new item one is same = ap items_view is ∙ map-append item_view old (item ∷ []) ∙ ap (λ i. items_view old ++ i ∷ []) same

-- what two calls push for a number
pub pushed_both : (give : ℕ → List Item) (n : ℕ) (old between new own pool : List Item) → old ≡ flat_map give (range_with_len 0 n) → between ≡ old ++ own → new ≡ between ++ pool
    → own ++ pool ≡ give n → new ≡ flat_map give (range_with_len 0 (n + 1))
pushed_both give n old between new own pool held first second is =
    flat_step give n old new held (second ∙ ap (λ l. l ++ pool) first ∙ append_assoc old own pool ∙ ap (λ l. old ++ l) is)
