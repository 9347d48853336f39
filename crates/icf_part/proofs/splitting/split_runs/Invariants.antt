use Rattle.std.proofs.Common.{◌-◌, length}
use Rattle.icf_part.proofs.SplitRuns.{IsUnderSplit}
use Rattle.icf_part.proofs.splitting.split_runs.Given as goal

abbrev pub invariant-runs : goal.invariant-runs
invariant-runs g l = IsUnderSplit (length l.initial.classes.labels.items) l.keys l.at l.initial.classes l.classes l.initial.steps l.steps

abbrev pub decreases-runs : goal.decreases-runs
decreases-runs g l = length l.keys - l.at
