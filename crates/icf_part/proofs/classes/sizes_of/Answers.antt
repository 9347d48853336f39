use Rattle.std.proofs.Common.{get_or, arith}
use Rattle.icf_part.proofs.Sized.{sizes_few, sizes_first, sizes_last, sizes_next}
use Rattle.icf_part.proofs.classes.sizes_of.Goals as goal

pub loop-a-init : goal.loop-a-init
loop-a-init c = sizes_first c.args.labels.now c.in_ok-sizes.sizes.items (c.in_ok-sizes.ensures.items_if_clones_equal (λ y h. h))

pub overflow_add-index_mut : goal.overflow_add-index_mut
overflow_add-index_mut c =
    omega (arith, c.requires.few, sizes_few c.args.labels.now c.loop-a.a c.loop-a.sizes.items (get_or c.args.labels.now c.loop-a.a 0) c.index_mut.result.now (c.requires.within c.loop-a.a (omega arith)) c.loop-a.invariant c.index_mut.ensures.value)

pub loop-a-preserved : goal.loop-a-preserved
loop-a-preserved c =
    sizes_next c.args.labels.now c.loop-a.a c.loop-a.sizes.items c.index_mut.result.now (c.requires.within c.loop-a.a (omega arith)) c.loop-a.invariant c.index_mut.ensures.value

pub returns : goal.returns
returns c = sizes_last c.args.labels.now c.loop-a.a c.loop-a.sizes.items (omega arith) c.loop-a.invariant
