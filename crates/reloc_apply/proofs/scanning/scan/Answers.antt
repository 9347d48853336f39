use Rattle.std.proofs.Common.{arith}
use Rattle.reloc_apply.proofs.ScanSteps.{holds_next, holds_start}
use Rattle.reloc_apply.proofs.scanning.scan.Goals as goal

pub loop-k-init : goal.loop-k-init
loop-k-init c =
    holds_start c.args.view.now c.args.source.now c.requires.source c.args.first c.args.last c.args.from c.offset_of-at.result _ c.args.block.now c.requires.order
    c.offset_of-at.ensures.value (omega (arith, c.fresh.auto.window, c.requires.window)) c.requires.some c.requires.clear c.requires.own c.requires.shown c.fresh.ensures

pub loop-k-preserved : goal.loop-k-preserved
loop-k-preserved c =
    holds_next c.args.view.now c.args.source.now c.requires.source c.args.first c.args.last c.loop-k.k c.args.from c.loop-k.at c.step-at.result
    c.loop-k.window c.step-at.new.window c.args.block.now c.loop-k.block c.step-at.new.block (omega (arith, c.requires.last))
    c.loop-k.invariant c.step-at.ensures.at (omega (arith, c.step-at.auto.window)) (omega (arith, c.step-at.auto.block))
    c.step-at.ensures.bytes c.step-at.ensures.over
