use Rattle.std.proofs.Common.{◌+◌, ◌∙◌, ap, arith}
use Rattle.std.proofs.lemmas.List.{get_or_default}
use Rattle.reloc_apply.proofs.AddedUp.{added_next}
use Rattle.reloc_apply.proofs.numbered.add_up.Goals as goal

pub loop-n-preserved : goal.loop-n-preserved
loop-n-preserved c =
    added_next c.args.counts.now.items c.loop-n.n c.loop-n.total c.in_ok-total.total c.loop-n.counts.items (omega arith) c.loop-n.invariant
    (c.in_ok-total.ensures ∙ ap (λ k. c.loop-n.total + k) (c.index-count.ensures ∙ get_or_default c.loop-n.counts.items c.loop-n.n c.index-count.result.now 0 (omega arith)))
