use Rattle.std.proofs.Common.{◌≡◌, ◌+◌, take}
use Rattle.std.specs.List.{sum_by}
use Rattle.lk_tables.specs.Frames.{lists_of}
use Rattle.eh_frame.specs.Plan.{size_of}
use Rattle.eh_frame.proofs.planning.with_sizes.Given as goal

abbrev pub invariant-loop-number : goal.invariant-loop-number
invariant-loop-number l = l.len ≡ l.start + sum_by (size_of (lists_of l.frames)) (take l.number-index l.records)
