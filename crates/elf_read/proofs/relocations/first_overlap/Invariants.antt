use Rattle.std.proofs.Common.{◌≡◌, drop, map}
use Rattle.elf_read.specs.Relocations.{extent_of, first_met}
use Rattle.elf_read.proofs.relocations.first_overlap.Given as goal

-- what is found from here on is what is found in all
abbrev pub invariant-loop-at : goal.invariant-loop-at
invariant-loop-at l = first_met l.moving_end l.end l.at (map (extent_of l.contents) (drop l.at l.relocs)) ≡ first_met 0 0 0 (map (extent_of l.contents) l.relocs)
