use Rattle.std.proofs.Common.{◌≡◌, ◌+◌, map}
use Rattle.std.specs.List.{range_with_len}
use Rattle.intern_race.specs.Texts.{tag_at}
use Rattle.name_numbers.proofs.hash_lists.hash_block.Given as goal

abbrev pub invariant-loop-k : goal.invariant-loop-k
invariant-loop-k l = l.tags.items ≡ map (tag_at l.texts) (range_with_len 0 (l.fn.start + l.k))
