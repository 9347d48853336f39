use Rattle.std.proofs.Common.{◌≡◌, ◌-◌, find, length}
use Rattle.std.specs.List.{range_with_len}
use Rattle.lk_tables.specs.Relocations.{is_unpaired}
use Rattle.elf_read.proofs.relocations.first_unpaired.Given as goal

-- what is found from here on is what is found in all
abbrev pub invariant-loop-k : goal.invariant-loop-k
invariant-loop-k l =
    find (is_unpaired l.relocs) (range_with_len l.k (length l.relocs - l.k)) ≡ find (is_unpaired l.relocs) (range_with_len 0 (length l.relocs))
