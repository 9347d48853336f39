use Rattle.std.proofs.Common.{◌≡◌, ◌++◌}
use Rattle.std.specs.Prelude.{filter, is_some}
use Rattle.std.specs.Vec.Iter.{into_iter_items}
use Rattle.link_driver.proofs.piped.push_read.Given as goal

abbrev pub invariant-loop-head : goal.invariant-loop-head
invariant-loop-head l =
    (goal.iterator-loop-head).can_next l.head-iterator
    × (goal.iterator-loop-head).is_finite l.head-iterator
    × (l.yielded ++ into_iter_items l.head-iterator ≡ l.fn.heads.items)
    × (l.list.items ≡ l.initial.list.items ++ filter is_some l.yielded)
