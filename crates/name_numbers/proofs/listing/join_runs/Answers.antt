use Rattle.std.proofs.Common.{arith}
use Rattle.name_numbers.proofs.JoinedRuns.{joined_all, joined_next, joined_none}
use Rattle.name_numbers.proofs.listing.join_runs.Goals as goal

pub loop-r-init : goal.loop-r-init
loop-r-init c = joined_none c.args.runs.now c.in_ok-whole.whole c.in_ok-whole.ensures

pub loop-r-preserved : goal.loop-r-preserved
loop-r-preserved c =
    joined_next c.args.runs.now c.loop-r.r c.index-runs-r.result c.loop-r.whole c.join_run.new.whole c.loop-r-test.true c.index-runs-r.is c.in_ok-join_run.ensures c.loop-r.invariant

pub returns : goal.returns
returns c = joined_all c.args.runs.now c.loop-r.r c.loop-r.whole (omega arith) c.loop-r.invariant
