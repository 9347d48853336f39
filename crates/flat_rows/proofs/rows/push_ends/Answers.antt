use Rattle.std.proofs.Common.{arith}
use Rattle.flat_rows.proofs.rows.push_ends.Goals as goal

pub returns-in_err-push-clause-err : goal.returns-in_err-push-clause-err
returns-in_err-push-clause-err c = absurd (omega (arith, c.loop-end.invariant.room, c.in_err-push.ensures.full))
