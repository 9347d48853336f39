use Rattle.std.proofs.Common.{◌-◌, length}
use Rattle.relax.proofs.RunSteps.{AreFirstRuns}
use Rattle.relax.proofs.losses.runs_of.Given as goal

abbrev pub invariant-loop-first : goal.invariant-loop-first
invariant-loop-first l = AreFirstRuns l.width l.sizes l.runs.items l.first

abbrev pub decreases-loop-first : goal.decreases-loop-first
decreases-loop-first l = length l.sizes - l.first
