use Rattle.std.proofs.Common.{ℕ, ◌≡◌, length, subst, arith}
use Rattle.str_merge.specs.Filling.{IsFilledTo}
use Rattle.str_merge.proofs.ReadySteps.{left_first, left_next}
use Rattle.str_merge.proofs.filling.fill.Goals as goal

pub loop-pool-init : goal.loop-pool-init
loop-pool-init g c = record { filled = c.in_ok-filled.ensures; left = left_first c.args.work.now c.in_ok-ready.ready.items c.in_ok-ready.ensures }

pub loop-pool-preserved : goal.loop-pool-preserved
loop-pool-preserved g c = record {
  filled = c.in_ok-filled-2.ensures;
  left = left_next c.args.work.now c.loop-pool.pool c.loop-pool.ready.items c.take-known.new.self c.loop-pool.invariant.left;
}

pub returns : goal.returns
returns g c =
    let few = c.requires.work.few in
    let past = c.loop-pool-test.false in
    let within = c.loop-pool.auto.pool-end in
    let all : c.loop-pool.pool ≡ length c.args.work.now.firsts.now = omega (arith, few, past, within) in
    let P : ℕ → Type 0 = λ n. IsFilledTo c.args.work.now n c.loop-pool.filled in
    subst P all c.loop-pool.invariant.filled
