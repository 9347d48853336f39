use Rattle.std.proofs.Common.{◌≡◌, ◌++◌, length}
use Rattle.std.specs.Vec.Iter.{into_iter_items}
use Rattle.work_split.specs.Tasks.{EachIsJob}
use Rattle.work_split.proofs.tasks.jobs_of.Given as goal

abbrev pub invariant-loop-own : goal.invariant-loop-own
invariant-loop-own g l =
    (goal.iterator-loop-own g).can_next l.own-iterator
    × (goal.iterator-loop-own g).is_finite l.own-iterator
    × (l.yielded ++ into_iter_items l.own-iterator ≡ l.fn.given.items)
    × (length l.jobs.items ≡ length l.yielded)
    × EachIsJob l.pieces l.fn.given.items l.jobs.items
