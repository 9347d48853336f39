use Rattle.std.proofs.Common.{ℕ, ◌≡◌, ◌<◌, length, get_or}
use Rattle.name_numbers.specs.Placed.{no_slot}
use Rattle.name_numbers.proofs.blocks.forget_slots.Given as goal

abbrev pub invariant-loop-k : goal.invariant-loop-k
invariant-loop-k l = record {
  len : length l.early ≡ length l.initial.early;
  none : (j : ℕ) → j < l.k → get_or l.early j 0 ≡ no_slot;
}
