use Rattle.std.proofs.Common.{◌≡◌, ◌++◌, length}
use Rattle.std.specs.Vec.Iter.{into_iter_items}
use Rattle.piped_reads.specs.Loads.{numbered}
use Rattle.piped_reads.proofs.piped.files_of.Given as goal

abbrev pub invariant-loop-one : goal.invariant-loop-one
invariant-loop-one l =
    (goal.iterator-loop-one).can_next l.one-iterator
    × (goal.iterator-loop-one).is_finite l.one-iterator
    × (l.yielded ++ into_iter_items l.one-iterator ≡ l.fn.took.items)
    × (l.at ≡ length l.yielded)
    × (l.yielded ≡ numbered 0 l.files.items)
