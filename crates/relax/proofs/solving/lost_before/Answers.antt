use Rattle.std.proofs.Common.{ap, arith}
use Rattle.relax.specs.Jumps.{lost_before}
use Rattle.relax.proofs.LeastSizes.{length_sums, sum_at, upto_low}
use Rattle.std.proofs.Common.{length}
use Rattle.relax.proofs.solving.lost_before.Goals as goal

pub bounds-lost-point : goal.bounds-lost-point
bounds-lost-point c = omega (arith, c.requires.within, ap length c.requires.lost, length_sums c.args.sizes.now)

pub offset_bounds-lost-point : goal.offset_bounds-lost-point
offset_bounds-lost-point c = omega (arith, c.requires.within, ap length c.requires.lost, length_sums c.args.sizes.now, c.type_inv.lost)

pub overflow_add-result : goal.overflow_add-result
overflow_add-result c =
    let z = c.args.sizes.now in
    let k = c.args.point.now.call in
    omega (arith, sum_at z c.args.lost.now k 0 c.requires.lost c.requires.within, upto_low z k, c.fits-point.1, c.min.ensures)

pub returns-clause-value : goal.returns-clause-value
unfolding lost_before
returns-clause-value c =
    let z = c.args.sizes.now in
    let k = c.args.point.now.call in
    omega (arith, sum_at z c.args.lost.now k 0 c.requires.lost c.requires.within, c.min.ensures, c.min-2.ensures, c.min-3.ensures, c.size_at-size.ensures)

pub returns-clause-few : goal.returns-clause-few
returns-clause-few c =
    let z = c.args.sizes.now in
    let k = c.args.point.now.call in
    omega (arith, sum_at z c.args.lost.now k 0 c.requires.lost c.requires.within, upto_low z k, c.fits-point.1, c.min.ensures)
