use Rattle.std.proofs.Common.{arith}
use Rattle.layout.proofs.CutSums.{no_cut}
use Rattle.layout.proofs.CutsPassed.{ended_most, room_of_ended}
use Rattle.layout.proofs.cutting.kept_by_ended.Goals as goal

pub overflow_add-kept : goal.overflow_add-kept
overflow_add-kept c =
    let one = room_of_ended c.args.offset c.args.cuts.now c.loop-cut.cut-index _ _ no_cut c.loop-cut-test.true c.loop-cut.invariant in
    omega (arith, one, c.kept_if_ended-kept.ensures, ended_most c.args.offset c.args.cuts.now, c.requires)

pub returns-clause-most : goal.returns-clause-most
returns-clause-most c = omega (arith, c.loop-cut.invariant, ended_most c.args.offset c.args.cuts.now)
