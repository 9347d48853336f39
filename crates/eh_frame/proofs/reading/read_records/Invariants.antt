use Rattle.std.proofs.Common.{length, ◌-◌}
use Rattle.eh_frame.proofs.Walk.{Walked}
use Rattle.eh_frame.proofs.reading.read_records.Given as goal

abbrev pub invariant-walk : goal.invariant-walk
invariant-walk l = Walked l.section l.offset l.bytes l.relocs l.at l.records.items

abbrev pub decreases-walk : goal.decreases-walk
decreases-walk l = length l.bytes - l.at
