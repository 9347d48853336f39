use Rattle.std.proofs.Common.{◌<◌, length}
use Rattle.why_chain.specs.Meetings.{places_of, vias_of}
use Rattle.why_chain.proofs.Unwinding.{IsBack}
use Rattle.why_chain.proofs.paths.vias_to.Given as goal

abbrev pub invariant-loop-at : goal.invariant-loop-at
invariant-loop-at l = record {
  inside : l.at < length l.queue;
  back : IsBack (vias_of l.queue) (places_of l.queue) l.place l.at l.vias.items;
}

abbrev pub decreases-loop-at : goal.decreases-loop-at
decreases-loop-at l = l.at
