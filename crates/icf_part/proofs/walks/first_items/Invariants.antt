use Rattle.std.proofs.Common.{◌≡◌, get_or, map, take}
use Rattle.icf_part.proofs.walks.first_items.Given as goal

abbrev pub invariant-loop-a : goal.invariant-loop-a
invariant-loop-a l = l.list.items ≡ map (λ k. get_or l.firsts.items k 0) (take l.a l.labels)
