use Rattle.std.proofs.Common.{◌≡◌, length}
use Rattle.name_numbers.proofs.blocks.note_near.Given as goal

abbrev pub invariant-loop-k : goal.invariant-loop-k
invariant-loop-k l = length l.told ≡ length l.initial.told
