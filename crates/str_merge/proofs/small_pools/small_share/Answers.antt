use Rattle.std.proofs.Common.{◌≡◌, ◌-◌, ℕ, subst, arith}
use Rattle.work_split.specs.Shares.{EachFrom}
use Rattle.work_split.proofs.Sharing.{each_pushed}
use Rattle.str_merge.specs.Pooling.{IsReady}
use Rattle.str_merge.proofs.CutTexts.{none_in}
use Rattle.str_merge.proofs.small_pools.small_share.Goals as goal

pub loop-pool-preserved : goal.loop-pool-preserved
loop-pool-preserved g c =
    each_pushed (IsReady c.args.work.now) c.args.share.start c.loop-pool.pool c.loop-pool.list.items c.push.new.self.items c.in_ok-ready.ready
    c.in_ok-push.ensures.items c.loop-pool.invariant c.in_ok-ready.ensures

pub returns : goal.returns
returns g c =
    let all : c.loop-pool.pool ≡ c.args.share.end = omega arith in
    let P : ℕ → Type 0 = λ n. EachFrom (IsReady c.args.work.now) c.args.share.start n c.loop-pool.list.items in
    record { goes = none_in c.args.share.start (c.args.share.end - c.args.share.start); each = subst P all c.loop-pool.invariant }
