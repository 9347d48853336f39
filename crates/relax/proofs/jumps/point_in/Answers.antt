use Rattle.std.proofs.Common.{arith}
use Rattle.relax.proofs.PointSteps.{ended_most}
use Rattle.relax.proofs.jumps.point_in.Goals as goal

pub overflow_add-result : goal.overflow_add-result
overflow_add-result c = omega (arith, c.requires.start, c.ranges.offset.fits)

pub overflow_add-result-2 : goal.overflow_add-result-2
overflow_add-result-2 c = omega (arith, c.requires.first, c.ended-n.ensures, ended_most c.args.row.now c.args.offset)
