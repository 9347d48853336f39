use Rattle.std.proofs.Common.{◌≡◌, length, drop}
use Rattle.sec_gc.specs.Visits.{progress, all_visited}
use Rattle.sec_gc.proofs.alone.visit_all.Given as goal

abbrev pub invariant-loop-i : goal.invariant-loop-i
invariant-loop-i l =
    (length l.seen.items ≡ length l.fn.seen.items)
    × (all_visited (progress l.seen.items l.queue.items) (drop l.i l.sections) ≡ all_visited (progress l.fn.seen.items l.fn.queue.items) l.sections)
