use Rattle.std.proofs.Common.{◌≡◌, map}
use Rattle.std.specs.List.{range_with_len}
use Rattle.eh_frame.specs.Sections.{entry_at}
use Rattle.eh_frame.proofs.sections.entries_of.Given as goal

abbrev pub invariant-loop-number : goal.invariant-loop-number
invariant-loop-number l = l.entries.items ≡ map (entry_at l.bytes l.index) (range_with_len 0 l.number)
