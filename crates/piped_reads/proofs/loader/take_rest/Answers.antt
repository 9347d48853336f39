use Rattle.piped_reads.proofs.RuleSteps.{takes}
use Rattle.piped_reads.proofs.loader.take_rest.Goals as goal

pub pop_as-requires-clause-rule : goal.pop_as-requires-clause-rule
pop_as-requires-clause-rule g c = (takes _ _, λ items views held at. tt)
