use Rattle.std.proofs.Common.{◌≡◌, ◌+◌, ap, refl, ◌∙◌, arith}
use Rattle.std.proofs.lemmas.List.{length-set}
use Rattle.str_merge.specs.Filling.{with_answers}
use Rattle.str_merge.proofs.AnswerSteps.{answers_all, answers_next}
use Rattle.str_merge.proofs.filling.answer.Goals as goal

pub loop-n-init : goal.loop-n-init
loop-n-init c =
    let first : c.args.row + 0 ≡ c.args.row = omega arith in
    record { count = refl; rest = ap (with_answers c.args.answers.now.items c.args.members.now c.args.pool) first }

pub loop-n-preserved : goal.loop-n-preserved
loop-n-preserved c = record {
  count = length-set c.loop-n.answers.items _ _ ∙ c.loop-n.invariant.count;
  rest = answers_next c.loop-n.answers.items c.args.members.now c.args.pool c.args.row c.loop-n.n _ (omega arith) c.loop-n.invariant.rest;
}

pub returns : goal.returns
returns c = answers_all c.loop-n.answers.items c.args.members.now c.args.pool (c.args.row + c.loop-n.n) c.loop-n.n _ (omega arith) c.loop-n.invariant.rest
