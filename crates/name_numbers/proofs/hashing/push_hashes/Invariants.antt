use Rattle.std.proofs.Common.{◌≡◌, ◌+◌, ◌*◌, ◌++◌, ◌≤◌, map}
use Rattle.std.specs.List.{range_with_len}
use Rattle.name_numbers.specs.Texts.{hash_at}
use Rattle.name_numbers.proofs.hashing.push_hashes.Given as goal

abbrev pub invariant-loop-n : goal.invariant-loop-n
invariant-loop-n l = l.hashes.items ≡ l.fn.hashes.items ++ map (hash_at l.texts) (range_with_len l.fn.start (4 * l.n))

abbrev pub invariant-loop-k : goal.invariant-loop-k
invariant-loop-k l = (4 * l.fours ≤ l.k) × (l.hashes.items ≡ l.fn.hashes.items ++ map (hash_at l.texts) (range_with_len l.fn.start l.k))
