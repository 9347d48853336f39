use Rattle.std.proofs.Common.{◌∙◌, ap, arith}
use Rattle.std.proofs.lemmas.List.{take_rest, length-drop}
use Rattle.lk_depot.specs.Output.{said_if_seen}
use Rattle.lk_depot.proofs.Prefixes.{said_if_seen_goes_on}
use Rattle.lk_depot.proofs.writing.say_all.Goals as goal

pub loop-said-preserved : goal.loop-said-preserved
loop-said-preserved g c = record {
  within = omega (arith, simp (take_rest, length-drop) at c.in_ok-said.ensures.most);
  written = c.in_ok-said.ensures.written ∙ ap (said_if_seen _) c.loop-said.invariant.written
      ∙ said_if_seen_goes_on c.args.bytes.now c.loop-said.said c.in_ok-said.field-0 _;
  later = omega (arith, c.in_ok-said.ensures.cause.later);
}
