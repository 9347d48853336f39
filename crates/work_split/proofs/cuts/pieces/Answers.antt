use Rattle.std.proofs.Common.{◌-◌, ◌+◌, arith}
use Rattle.work_split.proofs.Cutting.{cutting-next}
use Rattle.work_split.proofs.cuts.pieces.Goals as goal

pub loop-done-preserved : goal.loop-done-preserved
loop-done-preserved c =
    rw c.in_ok-push.ensures.items
    (cutting-next _ (c.min-count.result - (c.loop-done.done + 1)) (c.min-count.result - c.loop-done.done) _ _ _ _ (omega arith) c.loop-done.invariant)
