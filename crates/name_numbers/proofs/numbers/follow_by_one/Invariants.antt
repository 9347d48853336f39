use Rattle.std.proofs.Common.{◌≡◌, map, get_or}
use Rattle.std.specs.List.{range_with_len}
use Rattle.name_numbers.proofs.numbers.follow_by_one.Given as goal

abbrev pub invariant-loop-s : goal.invariant-loop-s
invariant-loop-s l = l.list.items ≡ map (λ s. get_or l.firsts (get_or l.firsts s 0) 0) (range_with_len 0 l.s)
