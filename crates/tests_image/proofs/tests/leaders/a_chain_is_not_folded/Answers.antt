use Rattle.std.proofs.Common.{List, [], sym, subst, rules}
use Rattle.link_sections.specs.declared.fold_items.FoldItem.{FoldItem as LentItem}
use Rattle.tests_image.proofs.InOrder.{AreNumbered, numbered_first}
use Rattle.tests_image.proofs.tests.leaders.a_chain_is_not_folded.Goals as goal

pub loop-n-init : goal.loop-n-init
loop-n-init g c =
    let none : AreNumbered [] 0 = record { count = search rules; numbered = numbered_first } in
    let Q : List LentItem → Type 0 = λ l. AreNumbered l 0 in
    subst Q (sym c.new-items.ensures.items) none
