use Rattle.std.proofs.Common.{arith}
use Rattle.work_split.proofs.Jobs.{each_piece}
use Rattle.work_split.proofs.tasks.over_pieces.Goals as goal

pub returns-clause-each : goal.returns-clause-each
returns-clause-each g c =
    let given_count = c.args.given.ok.0 in
    let whole = c.requires.count in
    each_piece (goal.F-post g c.args.task) _ _ _ _ c.in_ok-jobs.ensures (omega arith) c.run_jobs.ensures.each
