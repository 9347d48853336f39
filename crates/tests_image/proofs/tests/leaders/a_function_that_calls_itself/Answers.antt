use Rattle.std.proofs.Common.{◌≡◌, List, length, sym, subst}
use Rattle.std.specs.List.{range_with_len}
use Rattle.link_sections.specs.declared.fold_items.FoldItem.{FoldItem as LentItem}
use Rattle.link_sections.specs.FoldItems.{item_views, sections_of}
use Rattle.tests_image.proofs.InOrder.{numbered_first}
use Rattle.tests_image.proofs.tests.leaders.a_function_that_calls_itself.Goals as goal

pub add-requires-clause-numbered : goal.add-requires-clause-numbered
add-requires-clause-numbered g c =
    let P : List LentItem → Type 0 = λ l. sections_of (item_views l) ≡ range_with_len 0 (length l) in
    subst P (sym c.new-items.ensures.items) numbered_first
