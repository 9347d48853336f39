use Rattle.std.proofs.Common.{◌≡◌, ◌+◌, drop}
use Rattle.std.specs.List.{sum_by}
use Rattle.layout.specs.CutsSoFar.{kept_if_ended}
use Rattle.layout.proofs.cutting.kept_by_ended.Given as goal

abbrev pub invariant-loop-cut : goal.invariant-loop-cut
invariant-loop-cut l = l.kept + sum_by (kept_if_ended l.offset) (drop l.cut-index l.cuts) ≡ sum_by (kept_if_ended l.offset) l.cuts
