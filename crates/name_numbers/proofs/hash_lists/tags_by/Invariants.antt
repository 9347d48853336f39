use Rattle.std.proofs.Common.{◌≡◌, get_or, map}
use Rattle.std.specs.List.{range_with_len}
use Rattle.intern_race.specs.Hash.{tag_of}
use Rattle.name_numbers.proofs.hash_lists.tags_by.Given as goal

abbrev pub invariant-loop-k : goal.invariant-loop-k
invariant-loop-k l = l.list.items ≡ map (λ i. tag_of (get_or l.hashes i 0)) (range_with_len 0 l.k)
