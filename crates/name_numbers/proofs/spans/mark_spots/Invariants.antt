use Rattle.std.proofs.Common.{length, get_or}
use Rattle.name_numbers.specs.Spans.{no_spot}
use Rattle.name_numbers.proofs.Runs.{Marked}
use Rattle.name_numbers.proofs.spans.mark_spots.Given as goal

abbrev pub invariant-loop-k : goal.invariant-loop-k
invariant-loop-k l = Marked (λ j. (get_or l.spots j no_spot).span) (λ j. (get_or l.spots j no_spot).symbol) (length l.spots) l.initial.firsts.items l.firsts.items l.first l.k
