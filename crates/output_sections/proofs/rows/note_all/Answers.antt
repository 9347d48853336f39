use Rattle.std.proofs.Common.{arith}
use Rattle.output_sections.proofs.HeadSteps.{left_end}
use Rattle.output_sections.proofs.Settling.{settling_end, settling_first, settling_next}
use Rattle.output_sections.proofs.rows.note_all.Goals as goal

pub loop-i-init : goal.loop-i-init
loop-i-init c = settling_first c.args.class c.args.items.now c.no_head-known.result c.args.rows.now.items c.no_head-known.ensures c.requires.none

pub loop-i-preserved : goal.loop-i-preserved
loop-i-preserved c =
    let done = c.in_ok-settled.ensures in
    settling_next c.args.class c.loop-i.i c.args.items.now _ c.loop-i.known c.note_row.new.known c.loop-i.settled c.in_ok-settled.settled c.loop-i.rows.items c.note_row.new.rows.items (omega arith)
    done.noted done.held done.pushed done.settled c.loop-i.invariant

pub returns-clause-heads : goal.returns-clause-heads
returns-clause-heads c = left_end c.args.class c.loop-i.i c.args.items.now c.loop-i.known.heads (omega arith) c.loop-i.invariant.noting.left

pub returns-clause-held : goal.returns-clause-held
returns-clause-held c = c.loop-i.invariant.noting.held

pub returns-clause-rows : goal.returns-clause-rows
returns-clause-rows c =
    settling_end c.args.class c.loop-i.i c.args.items.now c.loop-i.known c.loop-i.settled c.loop-i.rows.items (omega arith)
    (left_end c.args.class c.loop-i.i c.args.items.now c.loop-i.known.heads (omega arith) c.loop-i.invariant.noting.left) c.loop-i.invariant
