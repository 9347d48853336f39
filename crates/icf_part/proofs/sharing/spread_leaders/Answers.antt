use Rattle.std.proofs.Common.{◌≡◌, ℕ, length, refl, subst, arith}
use Rattle.icf_part.specs.Chosen.{AreSpread}
use Rattle.icf_part.proofs.SharedItems.{spread_first, spread_next}
use Rattle.icf_part.proofs.sharing.spread_leaders.Goals as goal

pub loop-k-init : goal.loop-k-init
loop-k-init c = spread_first c.args.count c.args.chosen.now c.args.leaders.now c.in_ok-list.list.items c.in_ok-list.ensures

pub loop-k-preserved : goal.loop-k-preserved
loop-k-preserved c =
    spread_next c.args.count c.args.chosen.now c.loop-k.k c.args.leaders.now c.loop-k.list.items _ c.requires.order c.loop-k-test.true (c.requires.chosen c.loop-k.k 0 c.loop-k-test.true) c.loop-k.invariant refl

pub returns : goal.returns
returns c =
    let same : c.loop-k.k ≡ length c.args.chosen.now = omega arith in
    let P : ℕ → Type 0 = λ k. AreSpread c.args.count c.args.chosen.now k c.args.leaders.now c.loop-k.list.items in
    subst P same c.loop-k.invariant
