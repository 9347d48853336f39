use Rattle.std.proofs.Common.{◌≡◌, length}
use Rattle.name_numbers.proofs.blocks.read_homes.Given as goal

abbrev pub invariant-loop-k : goal.invariant-loop-k
invariant-loop-k l = length l.met ≡ length l.initial.met
