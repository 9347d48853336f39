use Rattle.std.proofs.Common.{◌≡◌, ◌++◌, Ok}
use Rattle.std.specs.Vec.Iter.{into_iter_items}
use Rattle.work_split.specs.Shares.{joined}
use Rattle.work_split.proofs.shares.join.Given as goal

abbrev pub invariant-loop-share : goal.invariant-loop-share
invariant-loop-share g l =
    (goal.iterator-loop-share g).can_next l.share-iterator
    × (goal.iterator-loop-share g).is_finite l.share-iterator
    × (l.yielded ++ into_iter_items l.share-iterator ≡ l.fn.shares.items)
    × (joined l.yielded ≡ Ok l.whole.items)
