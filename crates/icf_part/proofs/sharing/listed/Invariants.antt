use Rattle.std.proofs.Common.{◌≡◌}
use Rattle.std.specs.List.{filter, range_with_len}
use Rattle.icf_part.specs.Chosen.{is_shared}
use Rattle.icf_part.proofs.sharing.listed.Given as goal

abbrev pub invariant-loop-a : goal.invariant-loop-a
invariant-loop-a l = l.list.items ≡ filter (is_shared l.bytes l.shared) (range_with_len 0 l.a)
