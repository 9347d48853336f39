use Rattle.std.proofs.Common.{arith}
use Rattle.reloc_apply.proofs.StayingSteps.{next, start, turn}
use Rattle.reloc_apply.proofs.staying.fill_staying.Goals as goal

pub ends_before-old-requires-clause-small : goal.ends_before-old-requires-clause-small
ends_before-old-requires-clause-small c = λ i d lt. let lies = c.requires.within i d lt in omega (arith, lies, c.requires.end)

pub loop-k-init : goal.loop-k-init
loop-k-init c =
    start c.args.cuts.now c.args.raw.now c.args.block.now c.args.from c.args.at c.first_cut-k.result c.ends_before-old.result.0 c.ends_before-old.result.1
    c.requires.cuts c.requires.within c.first_cut-k.ensures.within
    (λ d some. let before = c.first_cut-k.ensures.before d some in omega (arith, before, c.saturating_sub.ensures)) c.first_cut-k.ensures.some
    c.ends_before-old.ensures.old c.ends_before-old.ensures.new

pub fill_part-requires-clause-order : goal.fill_part-requires-clause-order
fill_part-requires-clause-order c =
    let t = turn c.args.cuts.now c.args.raw.now c.args.block.now c.loop-k.block c.args.from c.args.at c.loop-k.k c.loop-k.old c.loop-k.new c.requires.cuts c.requires.within c.loop-k-test.true c.loop-k.invariant in
    t.order

pub fill_part-requires-clause-within : goal.fill_part-requires-clause-within
fill_part-requires-clause-within c =
    let t = turn c.args.cuts.now c.args.raw.now c.args.block.now c.loop-k.block c.args.from c.args.at c.loop-k.k c.loop-k.old c.loop-k.new c.requires.cuts c.requires.within c.loop-k-test.true c.loop-k.invariant in
    let l = t.lies in
    omega (arith, l)

pub fill_part-requires-clause-small : goal.fill_part-requires-clause-small
fill_part-requires-clause-small c =
    let t = turn c.args.cuts.now c.args.raw.now c.args.block.now c.loop-k.block c.args.from c.args.at c.loop-k.k c.loop-k.old c.loop-k.new c.requires.cuts c.requires.within c.loop-k-test.true c.loop-k.invariant in
    let l = t.lies in
    let w = t.low in
    omega (arith, l, w, t.order, c.requires.end)

pub overflow_add-at-in-loop-k-2 : goal.overflow_add-at-in-loop-k-2
overflow_add-at-in-loop-k-2 c =
    let t = turn c.args.cuts.now c.args.raw.now c.args.block.now c.loop-k.block c.args.from c.args.at c.loop-k.k c.loop-k.old c.loop-k.new c.requires.cuts c.requires.within c.loop-k-test.true c.loop-k.invariant in
    let l = t.lies in
    let w = t.low in
    let p = t.place in
    omega (arith, l, w, p, t.order, c.requires.end)

pub fill_kept-requires-clause-kept : goal.fill_kept-requires-clause-kept
fill_kept-requires-clause-kept c =
    let t = turn c.args.cuts.now c.args.raw.now c.args.block.now c.loop-k.block c.args.from c.args.at c.loop-k.k c.loop-k.old c.loop-k.new c.requires.cuts c.requires.within c.loop-k-test.true c.loop-k.invariant in
    t.most

pub fill_kept-requires-clause-within : goal.fill_kept-requires-clause-within
fill_kept-requires-clause-within c =
    let t = turn c.args.cuts.now c.args.raw.now c.args.block.now c.loop-k.block c.args.from c.args.at c.loop-k.k c.loop-k.old c.loop-k.new c.requires.cuts c.requires.within c.loop-k-test.true c.loop-k.invariant in
    t.lies

pub fill_kept-requires-clause-small : goal.fill_kept-requires-clause-small
fill_kept-requires-clause-small c =
    let t = turn c.args.cuts.now c.args.raw.now c.args.block.now c.loop-k.block c.args.from c.args.at c.loop-k.k c.loop-k.old c.loop-k.new c.requires.cuts c.requires.within c.loop-k-test.true c.loop-k.invariant in
    let l = t.lies in
    let w = t.low in
    let p = t.place in
    let m = t.most in
    omega (arith, l, w, p, m, t.order, c.requires.end)

pub overflow_add-old : goal.overflow_add-old
overflow_add-old c =
    let t = turn c.args.cuts.now c.args.raw.now c.args.block.now c.loop-k.block c.args.from c.args.at c.loop-k.k c.loop-k.old c.loop-k.new c.requires.cuts c.requires.within c.loop-k-test.true c.loop-k.invariant in
    let l = t.lies in
    omega (arith, l, c.requires.end)

pub overflow_add-new : goal.overflow_add-new
overflow_add-new c =
    let t = turn c.args.cuts.now c.args.raw.now c.args.block.now c.loop-k.block c.args.from c.args.at c.loop-k.k c.loop-k.old c.loop-k.new c.requires.cuts c.requires.within c.loop-k-test.true c.loop-k.invariant in
    let l = t.lies in
    let w = t.low in
    let p = t.place in
    let m = t.most in
    omega (arith, l, w, p, m, t.order, c.requires.end)

pub loop-k-preserved : goal.loop-k-preserved
loop-k-preserved c =
    next c.args.cuts.now c.args.raw.now c.args.block.now c.loop-k.block c.fill_part.new.block c.fill_kept.new.block c.args.from c.args.at c.loop-k.k c.loop-k.old c.loop-k.new
    c.requires.cuts c.requires.within c.loop-k-test.true c.loop-k.invariant c.fill_part.ensures.bytes c.fill_part.ensures.same c.fill_kept.ensures.bytes c.fill_kept.ensures.same
