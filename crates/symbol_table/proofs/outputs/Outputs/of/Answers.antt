use Rattle.std.proofs.Common.{arith}
use Rattle.symbol_table.specs.Noted.{noted}
use Rattle.symbol_table.proofs.NotedSteps.{all_noted, more_noted, none_noted}
use Rattle.symbol_table.proofs.outputs.Outputs.of.Goals as goal

pub loop-left-init : goal.loop-left-init
loop-left-init c = record { low = omega arith; known = none_noted c.new-known.result c.args.list.now c.new-known.ensures.empty }

pub loop-left-preserved : goal.loop-left-preserved
loop-left-preserved c = record {
  low = omega (arith, c.loop-left.invariant.low);
  known = more_noted c.args.list.now c.loop-left.left _ (noted c.loop-left.known) (noted c.note.new.known) (omega (arith, c.loop-left-test.true)) c.loop-left.invariant.low
      c.loop-left.invariant.known c.in_ok-note.ensures;
}

pub returns : goal.returns
returns c = all_noted c.args.list.now c.loop-left.left (noted c.loop-left.known) (omega (arith, c.loop-left-test.false)) c.loop-left.invariant.known
