use Rattle.std.proofs.Common.{◌∙◌}
use Rattle.piped_reads.proofs.Gathering.{all_of_loaded}
use Rattle.piped_reads.proofs.RuleSteps.{accounts_first}
use Rattle.piped_reads.proofs.piped.read_loaded.Goals as goal

pub learn_as-requires-clause-rule : goal.learn_as-requires-clause-rule
learn_as-requires-clause-rule g c = accounts_first _ _ (c.with_parsers-gathered.ensures.queue.1 ∙ c.requires.first)

pub returns-clause-gathered : goal.returns-clause-gathered
returns-clause-gathered g c =
    let held = c.with_parsers-gathered.ensures.gathered in
    let learnt = c.learn_as.ensures.rule in
    (held.buffers, held.loaded, all_of_loaded _ _ _ _ _ _ learnt.0 _ _ held learnt.1)
