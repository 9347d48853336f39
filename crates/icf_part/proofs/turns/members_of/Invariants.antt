use Rattle.std.proofs.Common.{◌≡◌, ◌==◌, get_or, take}
use Rattle.std.specs.List.{filter}
use Rattle.icf_part.proofs.turns.members_of.Given as goal

abbrev pub invariant-loop-i : goal.invariant-loop-i
invariant-loop-i l = l.own.items ≡ filter (λ a. get_or l.labels a 0 == l.fn.label) (take l.i l.list)
