use Rattle.std.proofs.Common.{ap, refl}
use Rattle.crossbeam_queue.specs.Passes.{view}
use Rattle.piped_reads.specs.declared.rule.Hand.{Hand}
use Rattle.piped_reads.proofs.Gathering.{taken_in}
use Rattle.piped_reads.proofs.RuleSteps.{merges_first}
use Rattle.piped_reads.proofs.piped.take_in.Goals as goal

pub absorb-requires-clause-rule : goal.absorb-requires-clause-rule
absorb-requires-clause-rule c = merges_first _ _ _ _ c.requires.first

pub returns-clause-gathered : goal.returns-clause-gathered
returns-clause-gathered c = λ by most before after names share less held.
    taken_in most by before after names (view c.args.pass.now) _ _ _ _ _ _ _ _ c.take_over.ensures.0
    (ap (λ (v : Hand). v.put) c.absorb.ensures.rule) (ap (λ (v : Hand). v.taken) c.absorb.ensures.rule) c.take_over.ensures.1 refl share less held
