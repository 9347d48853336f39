use Rattle.std.proofs.Common.{ℕ, ◌≡◌, ◌+◌, ◌<◌, length, get_or}
use Rattle.name_numbers.proofs.blocks.own_numbers.Given as goal

abbrev pub invariant-loop-k : goal.invariant-loop-k
invariant-loop-k l = record {
  len : length l.alike ≡ length l.initial.alike;
  own : (j : ℕ) → j < l.k → get_or l.alike j 0 ≡ l.fn.from + j;
}
