use Rattle.layout.proofs.CutsPassed.{Went}
use Rattle.layout.proofs.cutting.lay_cuts.Given as goal

abbrev pub invariant-loop-cut : goal.invariant-loop-cut
invariant-loop-cut l = Went l.start l.size l.cuts l.cut-index l.laid.items l.passed.whole l.passed.kept l.passed.reaching.items
