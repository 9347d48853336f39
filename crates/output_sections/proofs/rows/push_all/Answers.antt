use Rattle.std.proofs.Common.{arith}
use Rattle.output_sections.proofs.HeadSteps.{rest_end}
use Rattle.output_sections.proofs.RowSteps.{reading_first, reading_next}
use Rattle.output_sections.proofs.rows.push_all.Goals as goal

pub loop-i-preserved : goal.loop-i-preserved
loop-i-preserved c =
    reading_next c.args.class c.loop-i.i c.args.items.now _ c.args.heads.now c.loop-i.last _ _ _ (omega arith) c.requires.heads c.in_ok-last.ensures.rows c.in_ok-last.ensures.held c.loop-i.invariant

pub loop-i-init : goal.loop-i-init
loop-i-init c = reading_first c.args.class c.args.items.now c.args.heads.now c.args.last c.args.rows.now.items c.requires.held c.requires.none

pub returns : goal.returns
returns c = rest_end c.args.class c.loop-i.i c.args.items.now c.loop-i.rows.items (omega arith) c.loop-i.invariant.rest
