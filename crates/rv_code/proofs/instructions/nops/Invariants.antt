use Rattle.std.proofs.Common.{◌≡◌, ℕ, ◌<◌, get_or, length}
use Rattle.rv_code.specs.Instructions.{nop_byte}
use Rattle.rv_code.proofs.instructions.nops.Given as goal

abbrev pub invariant-loop-i : goal.invariant-loop-i
invariant-loop-i l = (k : ℕ) → k < l.i → get_or l.place k 0 ≡ nop_byte (length l.place) k
