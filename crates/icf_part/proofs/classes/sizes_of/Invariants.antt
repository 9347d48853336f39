use Rattle.icf_part.proofs.Sized.{AreSizesUpto}
use Rattle.icf_part.proofs.classes.sizes_of.Given as goal

abbrev pub invariant-loop-a : goal.invariant-loop-a
invariant-loop-a l = AreSizesUpto l.labels l.a l.sizes.items
