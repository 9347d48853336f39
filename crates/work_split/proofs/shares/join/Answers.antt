use Rattle.std.proofs.Common.{rules}
use Rattle.work_split.proofs.Sharing.{joined_more, joined_none, joined_stops, taken_more}
use Rattle.work_split.proofs.shares.join.Goals as goal

pub loop-share-init : goal.loop-share-init
loop-share-init g c = (tt, tt, search rules, joined_none c.new-whole.result.items c.new-whole.ensures.items)

pub loop-share-preserved : goal.loop-share-preserved
loop-share-preserved g c =
    let before = c.loop-share.invariant in (
      tt,
      tt,
      taken_more c.loop-share.yielded _ _ c.args.shares.items c.in-Some.share before.2 c.in-Some.ensures.steps.0,
      joined_more c.loop-share.yielded c.loop-share.whole.items c.in_ok-whole.whole.items c.in-Some.share c.in-Ok.list before.3 c.in-Ok.is c.in_ok-whole.ensures,
    )

pub returns-in-Err : goal.returns-in-Err
returns-in-Err g c =
    joined_stops c.loop-share.yielded _ _ c.args.shares.items c.loop-share.whole.items c.in-Some.share c.in-Err.stop
    c.loop-share.invariant.3 c.loop-share.invariant.2 c.in-Some.ensures.steps.0 c.in-Err.is
