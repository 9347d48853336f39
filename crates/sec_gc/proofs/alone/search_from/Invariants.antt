use Rattle.std.proofs.Common.{◌-◌, length}
use Rattle.link_sections.specs.Edges.{ends_of}
use Rattle.sec_gc.specs.Visits.{Searched, progress}
use Rattle.sec_gc.proofs.alone.search_from.Given as goal

abbrev pub invariant-turns : goal.invariant-turns
invariant-turns l = Searched l.roots (ends_of l.edges) l.search.next (progress l.search.seen.items l.search.queue.items)

abbrev pub decreases-turns : goal.decreases-turns
decreases-turns l = length (ends_of l.edges) - l.search.next
