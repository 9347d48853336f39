use Rattle.std.proofs.Common.{ap, inr, subst}
use Rattle.piped_reads.specs.Loads.{IsAdded}
use Rattle.piped_reads.specs.declared.pieces.Piece.{Piece}
use Rattle.piped_reads.specs.declared.rule.Hand.{Hand}
use Rattle.piped_reads.proofs.RuleSteps.{puts_first}
use Rattle.piped_reads.proofs.Taking.{files_apart}
use Rattle.piped_reads.proofs.loader.put_one.Goals as goal

pub push_as-requires-clause-rule : goal.push_as-requires-clause-rule
push_as-requires-clause-rule g c = (puts_first _ _ _ _ c.requires.first (files_apart c.args.index c.args.bytes _ c.requires.below), λ items views held at. tt)

pub returns-in-Err-clause-put : goal.returns-in-Err-clause-put
returns-in-Err-clause-put g c =
    let P : Piece → Type 0 = λ p. IsAdded p 0 c.args.results.now.took.items c.add.new.results.took.items in
    inr (ap (λ (v : Hand). v.put) c.in-Err.ensures.rule.1, subst P c.in-Err.ensures.rule.0 c.add.ensures)
