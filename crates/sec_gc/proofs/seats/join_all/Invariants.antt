use Rattle.std.proofs.Common.{◌≡◌, ◌++◌, All, true, false}
use Rattle.std.specs.Vec.Iter.{into_iter_items}
use Rattle.sec_gc.specs.Closing.{KeepsSeen}
use Rattle.sec_gc.specs.Marks.{SitsAt}
use Rattle.sec_gc.specs.Workers.{HasMore}
use Rattle.sec_gc.proofs.seats.join_all.Given as goal

abbrev pub invariant-loop-done : goal.invariant-loop-done
invariant-loop-done l =
    goal.iterator-loop-done.can_next l.done-iterator
    × goal.iterator-loop-done.is_finite l.done-iterator
    × (l.yielded ++ into_iter_items l.done-iterator ≡ l.fn.others.items)
    × SitsAt l.marks l.seat
    × KeepsSeen l.fn.seat.seen l.seat.seen
    × All (λ done. KeepsSeen done.seat.seen l.seat.seen) l.yielded
    × (l.more ≡ true → HasMore l.yielded)
    × (l.more ≡ false → All (λ done. done.more ≡ false) l.yielded)
