use Rattle.std.proofs.Common.{◌*◌, ◌+◌, arith}
use Rattle.relax.proofs.LeastSizes.{upto_few}
use Rattle.relax.proofs.losses.with_runs.Goals as goal

pub overflow_add-lost : goal.overflow_add-lost
overflow_add-lost c =
    let i = c.loop-i.i in
    let w = c.args.width in
    let one = c.requires.runs.each i (omega (arith, c.loop-i-test.true, c.requires.last)) in
    omega (arith, c.loop-i.invariant, one, upto_few c.args.sizes.now (i * w + w), c.type_inv.sizes)
