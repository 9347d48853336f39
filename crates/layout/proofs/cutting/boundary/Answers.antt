use Rattle.std.proofs.Common.{◌∙◌, arith}
use Rattle.layout.specs.Cutting.{boundary}
use Rattle.layout.proofs.Boundaries.{found_at, past_all, raised}
use Rattle.layout.proofs.cutting.boundary.Goals as goal

pub returns-then-whole-power-clause-value : goal.returns-then-whole-power-clause-value
unfolding boundary
returns-then-whole-power-clause-value c = found_at c.loop.counter c.loop.power c.args.whole c.loop-test.true c.if-whole-power.true ∙ c.loop.invariant.value

pub loop-preserved : goal.loop-preserved
loop-preserved c = record {
  some = omega (arith, c.loop.invariant.some);
  most = omega (arith, c.if-whole-power.false);
  value = raised c.loop.counter c.loop.power c.args.whole c.loop-test.true c.if-whole-power.false ∙ c.loop.invariant.value;
}

pub returns-clause-value : goal.returns-clause-value
unfolding boundary
returns-clause-value c = past_all c.loop.counter c.loop.power c.args.whole c.loop-test.false ∙ c.loop.invariant.value
