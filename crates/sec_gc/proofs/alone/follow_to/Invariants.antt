use Rattle.std.proofs.Common.{◌≡◌, ◌≤◌, ◌-◌, ℕ, List, length}
use Rattle.link_sections.specs.Edges.{ends_of}
use Rattle.sec_gc.specs.Visits.{Searched, progress}
use Rattle.sec_gc.proofs.alone.follow_to.Given as goal

abbrev pub invariant-steps : goal.invariant-steps
invariant-steps l =
    (l.end ≤ length l.search.queue.items)
    × (length l.search.seen.items ≡ length (ends_of l.edges))
    × ((roots : List ℕ) → Searched roots (ends_of l.edges) l.fn.search.next (progress l.fn.search.seen.items l.fn.search.queue.items) → Searched roots (ends_of l.edges) l.search.next (progress l.search.seen.items l.search.queue.items))

abbrev pub decreases-steps : goal.decreases-steps
decreases-steps l = l.end - l.search.next
