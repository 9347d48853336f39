use Rattle.std.proofs.Common.{◌+◌, arith, refl, length}
use Rattle.reloc_apply.proofs.ScanSteps.{reached_from, reached_to}
use Rattle.reloc_apply.proofs.scanning.relocate.Goals as goal

pub returns-then-last-near : goal.returns-then-last-near
returns-then-last-near c =
    let view = c.args.view.now in
    let s = c.args.source.now in
    let near = c.first_near-near.result in
    reached_to view s c.requires.source near c.args.from (c.args.from + length c.args.block.now) c.args.block.now c.args.block.now refl c.first_near-near.ensures.bound
    (λ j le lt. c.first_after-last.ensures.after j (omega (arith, le)) lt)
    (reached_from view s c.requires.source near c.args.from c.args.block.now c.first_near-near.ensures.bound (λ j lt. c.first_near-near.ensures.before j lt) c.requires.shown)

pub scan-requires-clause-shown : goal.scan-requires-clause-shown
scan-requires-clause-shown c =
    reached_from c.args.view.now c.args.source.now c.requires.source c.chain_start-first.result c.args.from c.args.block.now
    (omega (arith, c.chain_start-first.ensures.bound, c.first_near-near.ensures.bound)) (λ j lt. c.first_near-near.ensures.before j (omega (arith, lt, c.chain_start-first.ensures.bound))) c.requires.shown

pub returns : goal.returns
returns c =
    reached_to c.args.view.now c.args.source.now c.requires.source c.first_after-last.result c.args.from (c.args.from + length c.args.block.now) c.args.block.now
    c.scan.new.block refl c.first_after-last.ensures.bound (λ j le lt. c.first_after-last.ensures.after j le lt) c.scan.ensures.over
