use Rattle.std.proofs.Common.{◌+◌, ◌-◌, ◌≤◌, length, MatchOption, All}
use Rattle.ar_read.specs.Archives.{LiesIn}
use Rattle.ar_read.proofs.Walk.{Walked}
use Rattle.ar_read.proofs.archive.read_members.Given as goal

abbrev pub invariant-loop-at : goal.invariant-loop-at
invariant-loop-at l = record {
  walked : Walked l.bytes l.at l.table l.members.items;
  lie : All (LiesIn (length l.bytes)) l.members.items;
  table_inside : MatchOption l.table (Unit {0}) (λ t. t.from + t.len ≤ length l.bytes);
}

abbrev pub decreases-loop-at : goal.decreases-loop-at
decreases-loop-at l = length l.bytes - l.at
