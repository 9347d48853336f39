use Rattle.std.proofs.Common.{◌≡◌, ◌++◌}
use Rattle.std.specs.Vec.Iter.{into_iter_items}
use Rattle.intern_race.specs.Interning.{SitsAt}
use Rattle.tests_passes.proofs.tests.text_table.join_all.Given as goal

abbrev pub invariant-loop-other : goal.invariant-loop-other
invariant-loop-other l =
    goal.iterator-loop-other.can_next l.other-iterator
    × goal.iterator-loop-other.is_finite l.other-iterator
    × (l.yielded ++ into_iter_items l.other-iterator ≡ l.fn.others.items)
    × SitsAt l.interner l.seat
