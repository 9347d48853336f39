use Rattle.std.proofs.Common.{◌≡◌, get_or, map, take}
use Rattle.icf_part.proofs.sharing.chosen_numbers.Given as goal

abbrev pub invariant-loop-k : goal.invariant-loop-k
invariant-loop-k l = l.list.items ≡ map (λ a. get_or l.numbers a 0) (take l.k l.chosen)
