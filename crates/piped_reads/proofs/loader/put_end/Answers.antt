use Rattle.std.proofs.Common.{◌∙◌, All, sym, subst}
use Rattle.piped_reads.specs.Rule.{IsApart}
use Rattle.piped_reads.specs.declared.rule.Hand.{Hand}
use Rattle.piped_reads.specs.declared.pieces.Piece.TheVariants.{End}
use Rattle.piped_reads.proofs.RuleSteps.{puts_first}
use Rattle.piped_reads.proofs.loader.put_end.Goals as goal

pub push_as-requires-clause-rule : goal.push_as-requires-clause-rule
push_as-requires-clause-rule g c =
    let before = c.loop.invariant in
    let P : Hand → Type 0 = λ v. All (λ piece. IsApart piece (End c.args.number)) v.put in
    (puts_first _ _ _ _ (before.1.1 ∙ c.requires.first) (subst P (sym before.2) c.requires.fresh), λ items views held at. tt)
