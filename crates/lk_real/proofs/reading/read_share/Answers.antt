use Rattle.std.proofs.Common.{◌≡◌, ◌-◌, ℕ, subst, arith}
use Rattle.work_split.specs.Shares.{EachFrom}
use Rattle.work_split.proofs.Sharing.{each_pushed}
use Rattle.lk_real.specs.Reading.{IsAny}
use Rattle.lk_real.proofs.ReadSteps.{none_in}
use Rattle.lk_real.proofs.reading.read_share.Goals as goal

pub loop-at-preserved : goal.loop-at-preserved
loop-at-preserved g c =
    each_pushed IsAny c.args.share.start c.loop-at.at c.loop-at.read.items c.push.new.self.items c.in_ok-file.file c.in_ok-push.ensures.items c.loop-at.invariant tt

pub returns : goal.returns
returns g c =
    let all : c.loop-at.at ≡ c.args.share.end = omega arith in
    let P : ℕ → Type 0 = λ n. EachFrom IsAny c.args.share.start n c.loop-at.read.items in
    record { goes = none_in c.args.share.start (c.args.share.end - c.args.share.start); each = subst P all c.loop-at.invariant }
