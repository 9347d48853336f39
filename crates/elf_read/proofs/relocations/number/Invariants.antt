use Rattle.std.proofs.Common.{◌≡◌, map}
use Rattle.std.specs.List.{range_with_len}
use Rattle.elf_read.specs.Relocations.{number_at}
use Rattle.elf_read.proofs.relocations.number.Given as goal

abbrev pub invariant-loop-number : goal.invariant-loop-number
invariant-loop-number l = l.entries.items ≡ map (number_at l.relocs) (range_with_len 0 l.number)
