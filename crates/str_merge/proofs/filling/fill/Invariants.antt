use Rattle.str_merge.specs.Filling.{IsFilledTo}
use Rattle.str_merge.proofs.ReadySteps.{AreLeft}
use Rattle.str_merge.proofs.filling.fill.Given as goal

abbrev pub invariant-loop-pool : goal.invariant-loop-pool
invariant-loop-pool g l = record {
  filled : IsFilledTo l.work l.pool l.filled;
  left : AreLeft l.work l.pool l.ready.items;
}
