use Rattle.std.proofs.Common.{◌≡◌, ◌+◌, ◌*◌, ◌/◌, ◌++◌, ◌∷◌, [], ℕ, map, ap, ◌∙◌, arith, length}
use Rattle.std.specs.List.{range_with_len}
use Rattle.lk_base.proofs.Loops.{map_step}
use Rattle.relax.specs.Jumps.{lost_upto}
use Rattle.relax.proofs.losses.coarse_sums.Goals as goal

pub loop-j-preserved : goal.loop-j-preserved
loop-j-preserved c =
    let z = c.args.sizes.now in
    let j = c.loop-j.j in
    let next : j * 16 + 16 ≡ (j + 1) * 16 = omega arith in
    record {
      sums = map_step (λ (n : ℕ). lost_upto z (n * 16)) j c.loop-j.sums.items c.push.new.self.items c.loop-j.invariant.sums (c.in_ok-push.ensures.items ∙ ap (λ n. c.loop-j.sums.items ++ n ∷ []) c.loop-j.invariant.sum);
      sum = c.with_calls-sum.ensures ∙ ap (lost_upto z) next;
    }

pub returns : goal.returns
returns c =
    let z = c.args.sizes.now in
    let j = c.loop-j.j in
    let end : j ≡ length z / 16 = omega (arith, c.loop-j-test.false) in
    map_step (λ (n : ℕ). lost_upto z (n * 16)) j c.loop-j.sums.items c.push-2.new.self.items c.loop-j.invariant.sums (c.in_ok-push-2.ensures.items ∙ ap (λ n. c.loop-j.sums.items ++ n ∷ []) c.loop-j.invariant.sum)
    ∙ ap (λ n. map (λ (m : ℕ). lost_upto z (m * 16)) (range_with_len 0 (n + 1))) end
