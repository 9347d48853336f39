use Rattle.name_numbers.proofs.JoinedRuns.{JoinedTo}
use Rattle.name_numbers.proofs.listing.join_runs.Given as goal

abbrev pub invariant-loop-r : goal.invariant-loop-r
invariant-loop-r l = JoinedTo l.runs l.r l.whole
