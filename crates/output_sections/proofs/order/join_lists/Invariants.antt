use Rattle.std.proofs.Common.{◌≡◌, ◌++◌}
use Rattle.std.specs.Vec.Iter.{into_iter_items}
use Rattle.output_sections.specs.Order.{lists_view}
use Rattle.output_sections.proofs.order.join_lists.Given as goal

abbrev pub invariant-loop-list : goal.invariant-loop-list
invariant-loop-list l =
    goal.iterator-loop-list.can_next l.list-iterator
    × goal.iterator-loop-list.is_finite l.list-iterator
    × (l.yielded ++ into_iter_items l.list-iterator ≡ l.fn.lists.items)
    × (l.rows ≡ lists_view l.yielded)
