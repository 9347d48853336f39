use Rattle.std.proofs.Common.{◌≡◌, ◌∙◌, List, length, sym, subst}
use Rattle.std.specs.List.{range_with_len}
use Rattle.link_sections.specs.declared.fold_items.FoldItem.{FoldItem as LentItem}
use Rattle.link_sections.specs.FoldItems.{item_views, sections_of}
use Rattle.tests_image.proofs.InOrder.{numbered_first}
use Rattle.tests_image.proofs.tests.leaders.none_are_folded_in_no_step.Goals as goal

pub leads-requires-clause-numbered : goal.leads-requires-clause-numbered
leads-requires-clause-numbered g c = λ κs.
    let P : List LentItem → Type 0 = λ l. sections_of (item_views l) ≡ range_with_len 0 (length l) in
    subst P (sym (c.as_slice.ensures.value ∙ c.new-items.ensures.items)) numbered_first
