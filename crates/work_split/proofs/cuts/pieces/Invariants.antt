use Rattle.std.proofs.Common.{◌/◌, ◌-◌}
use Rattle.work_split.proofs.Cutting.{IsCutting}
use Rattle.work_split.proofs.cuts.pieces.Given as goal

-- the pieces so far are cut, and the rest has enough for the workers that are left
abbrev pub invariant-loop-done : goal.invariant-loop-done
invariant-loop-done l = IsCutting (l.len / l.count) (l.count - l.done) l.len l.start l.done l.pieces.items
