use Rattle.reloc_apply.proofs.AddedUp.{IsAddedUp}
use Rattle.reloc_apply.proofs.numbered.add_up.Given as goal

abbrev pub invariant-loop-n : goal.invariant-loop-n
invariant-loop-n l = IsAddedUp l.fn.counts.items l.n l.total l.counts.items
