use Rattle.std.proofs.Common.{arith}
use Rattle.relax.specs.Jumps.{lost_before}
use Rattle.relax.proofs.LeastSizes.{upto_low}
use Rattle.relax.proofs.bands.lost_at.Goals as goal

pub overflow_add-result : goal.overflow_add-result
overflow_add-result c =
    let z = c.args.sizes.now in
    let k = c.args.point.now.call in
    omega (arith, c.lost_by.ensures, upto_low z k, c.fits-point.1, c.min.ensures)

pub returns-clause-value : goal.returns-clause-value
unfolding lost_before
returns-clause-value c =
    omega (arith, c.lost_by.ensures, c.min.ensures, c.min-2.ensures, c.min-3.ensures, c.size_at-size.ensures)

pub returns-clause-few : goal.returns-clause-few
returns-clause-few c =
    let z = c.args.sizes.now in
    let k = c.args.point.now.call in
    omega (arith, c.lost_by.ensures, upto_low z k, c.fits-point.1, c.min.ensures)
