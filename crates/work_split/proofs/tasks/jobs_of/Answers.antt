use Rattle.std.proofs.Common.{arith}
use Rattle.work_split.proofs.Jobs.{count_next, jobs_next}
use Rattle.work_split.proofs.Sharing.{taken_more}
use Rattle.work_split.proofs.tasks.jobs_of.Goals as goal

pub loop-own-preserved : goal.loop-own-preserved
loop-own-preserved g c =
    let grown = c.in_ok-push.ensures.items in
    let next = c.in-Some.ensures.steps.0 in
    let kept = c.loop-own.invariant in
    let given_count = c.args.given.ok.0 in
    let jobs_count = c.loop-own.jobs.ok.0 in
    let whole = c.requires.count in
    let number = c.len-worker.ensures in (
      tt,
      tt,
      taken_more _ _ _ _ _ kept.2 next,
      count_next _ _ _ _ _ kept.3 grown,
      jobs_next c.args.pieces.now (record { start = 0; end = 0 }) _ _ _ _ _ _ _ _ kept.2 next (omega arith) kept.3 (omega arith) kept.4 grown,
    )
