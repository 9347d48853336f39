use Rattle.std.proofs.Common.{◌≤◌}
use Rattle.str_merge.specs.Gathering.{IsPlace}
use Rattle.str_merge.specs.Sites.{piece_lists}
use Rattle.str_merge.proofs.gathering.find_from.Given as goal

abbrev pub invariant-loop-section : goal.invariant-loop-section
invariant-loop-section l = IsPlace (piece_lists l.cuts) l.members (record { section = l.section; before = l.before }) × (l.before ≤ l.fn.i)
