use Rattle.work_split.proofs.Weighing.{IsWeighing}
use Rattle.work_split.proofs.weights.pieces_by_weight.Given as goal

abbrev pub invariant-loop-index : goal.invariant-loop-index
invariant-loop-index l = IsWeighing l.weights l.workers l.start l.index l.left l.rest l.share l.weight l.pieces.items
