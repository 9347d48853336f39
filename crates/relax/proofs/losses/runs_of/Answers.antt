use Rattle.std.proofs.Common.{◌≡◌, ◌+◌, ◌-◌, length, ap, sym, subst, arith}
use Rattle.std.specs.Prelude.{min}
use Rattle.relax.specs.Jumps.{lost_upto}
use Rattle.relax.proofs.LeastSizes.{length_sums, sum_at}
use Rattle.relax.proofs.RunSteps.{AreFirstRuns, one_run}
use Rattle.relax.proofs.losses.runs_of.Goals as goal

pub bounds-before-next : goal.bounds-before-next
bounds-before-next c = omega (arith, ap length c.requires.before, length_sums c.args.sizes.now, c.min-next.ensures)

pub bounds-before-first : goal.bounds-before-first
bounds-before-first c = omega (arith, ap length c.requires.before, length_sums c.args.sizes.now, c.loop-first-test.true)

pub offset_bounds-before-next : goal.offset_bounds-before-next
offset_bounds-before-next c = omega (arith, ap length c.requires.before, length_sums c.args.sizes.now, c.min-next.ensures, c.type_inv.before)

pub offset_bounds-before-first : goal.offset_bounds-before-first
offset_bounds-before-first c = omega (arith, ap length c.requires.before, length_sums c.args.sizes.now, c.loop-first-test.true, c.type_inv.before)

pub loop-first-preserved : goal.loop-first-preserved
loop-first-preserved c =
    let z = c.args.sizes.now in
    let w = c.args.width in
    let first = c.loop-first.first in
    let next = c.min-next.result in
    let x = c.saturating_sub.result in
    let lt = c.loop-first-test.true in
    let to : next ≡ min (first + w) (length z) = omega (arith, c.min-next.ensures, c.saturating_add.ensures, c.type_inv.sizes) in
    let high = sum_at z c.args.before.now next 0 c.requires.before (omega (arith, to)) in
    let low = sum_at z c.args.before.now first 0 c.requires.before (omega (arith, lt)) in
    let lost : x ≡ lost_upto z next - lost_upto z first = omega (arith, c.saturating_sub.ensures, high, low) in
    subst (λ l. AreFirstRuns w z l next) (sym c.in_ok-push.ensures.items) (one_run w z c.loop-first.runs.items first next x c.loop-first.invariant lt to lost)
