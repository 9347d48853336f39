use Rattle.std.proofs.Common.{◌-◌, length}
use Rattle.icf_part.proofs.SplitAll.{IsUnderTurn}
use Rattle.icf_part.proofs.turns.split_all.Given as goal

abbrev pub invariant-runs : goal.invariant-runs
invariant-runs g l = IsUnderTurn (length l.initial.classes.labels.items) l.words l.at l.initial.classes l.classes l.initial.steps l.steps

abbrev pub decreases-runs : goal.decreases-runs
decreases-runs g l = length l.words - l.at
