use Rattle.std.proofs.Common.{ℕ, subst, arith}
use Rattle.rv_code.proofs.UlebNumbers.{AreFilled, all_filled, left_next, none_filled, one_filled}
use Rattle.rv_code.proofs.uleb.fill.Goals as goal

pub loop-i-init : goal.loop-i-init
loop-i-init c = record { filled = none_filled c.args.bits c.args.place.now; left_is = omega arith }

pub loop-i-preserved : goal.loop-i-preserved
loop-i-preserved c =
    let i = c.loop-i.invariant in
    record {
      filled = one_filled c.args.bits c.args.place.now c.loop-i.place c.loop-i.i c.loop-i.left i.filled (omega (arith, i.filled.len, c.loop-i-test.true)) i.left_is;
      left_is = left_next c.args.bits c.loop-i.i c.loop-i.left i.left_is;
    }

pub returns : goal.returns
returns c =
    let P : ℕ → Type 0 = λ n. AreFilled c.args.bits c.args.place.now c.loop-i.place n in
    all_filled c.args.bits c.args.place.now c.loop-i.place (subst P (omega (arith, c.loop-i-test.false, c.loop-i.auto.i-end)) c.loop-i.invariant.filled)
