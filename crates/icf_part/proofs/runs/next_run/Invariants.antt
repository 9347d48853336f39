use Rattle.std.proofs.Common.{◌≡◌, ◌-◌, ◌≤◌, map}
use Rattle.std.specs.List.{range_with_len}
use Rattle.icf_part.proofs.RunsFound.{lower}
use Rattle.icf_part.proofs.runs.next_run.Given as goal

abbrev pub invariant-loop-i : goal.invariant-loop-i
invariant-loop-i l = (l.fn.at ≤ l.i) × (l.part.items ≡ map (lower l.words) (range_with_len l.fn.at (l.i - l.fn.at)))
