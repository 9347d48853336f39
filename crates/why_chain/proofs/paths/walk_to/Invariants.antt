use Rattle.std.proofs.Common.{◌<◌, length}
use Rattle.why_chain.proofs.Unwinding.{IsBack}
use Rattle.why_chain.proofs.paths.walk_to.Given as goal

abbrev pub invariant-loop-at : goal.invariant-loop-at
invariant-loop-at l = record {
  inside : l.at < length l.froms;
  back : IsBack l.sections l.froms l.place l.at l.walk.items;
}

abbrev pub decreases-loop-at : goal.decreases-loop-at
decreases-loop-at l = l.at
