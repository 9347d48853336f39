use Rattle.std.proofs.Common.{◌≡◌, ◌+◌, ◌++◌, ◌∷◌, [], map, ap, ◌∙◌, arith, length}
use Rattle.std.specs.List.{range_with_len}
use Rattle.std.proofs.lemmas.List.{get_or_default}
use Rattle.lk_base.proofs.Loops.{map_step}
use Rattle.relax.specs.Jumps.{lost_upto}
use Rattle.relax.proofs.LeastSizes.{upto_low, upto_more}
use Rattle.relax.proofs.solving.lost_sums.Goals as goal

pub overflow_add-sum : goal.overflow_add-sum
overflow_add-sum c =
    let z = c.args.sizes.now in
    omega (arith, c.loop-k.invariant.sum, upto_low z c.loop-k.k, c.saturating_sub.ensures)

pub loop-k-preserved : goal.loop-k-preserved
loop-k-preserved c =
    let z = c.args.sizes.now in
    let k = c.loop-k.k in
    record {
      sums = map_step (lost_upto z) k c.loop-k.sums.items c.push.new.self.items c.loop-k.invariant.sums (c.in_ok-push.ensures.items ∙ ap (λ n. c.loop-k.sums.items ++ n ∷ []) c.loop-k.invariant.sum);
      sum = omega (arith, c.loop-k.invariant.sum, upto_more z k c.loop-k-test.true, c.saturating_sub.ensures, get_or_default z k 0 8 c.loop-k-test.true);
    }

pub returns : goal.returns
returns c =
    let z = c.args.sizes.now in
    let k = c.loop-k.k in
    let end : k ≡ length z = omega (arith, c.loop-k-test.false) in
    map_step (lost_upto z) k c.loop-k.sums.items c.push-2.new.self.items c.loop-k.invariant.sums (c.in_ok-push-2.ensures.items ∙ ap (λ n. c.loop-k.sums.items ++ n ∷ []) c.loop-k.invariant.sum)
    ∙ ap (λ n. map (lost_upto z) (range_with_len 0 (n + 1))) end
