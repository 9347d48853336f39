use Rattle.std.proofs.Common.{ap, sym, map, ◌∙◌}
use Rattle.lk_tables.specs.Relocations.{reloc}
use Rattle.elf_read.proofs.Overlaps.{rising_order}
use Rattle.elf_read.proofs.relocations.read_relocations.Goals as goal

pub returns-then-rises-clause-list : goal.returns-then-rises-clause-list
returns-then-rises-clause-list c =
    let b = c.args.file.now.bytes.now in
    let i = c.args.index in
    let read = c.in_ok-relocs.ensures.list in
    let up = rw c.as_slice.ensures.value at (c.rises.ensures c.if-rises.true) in
    read ∙ ap (map (reloc b i)) (sym (rising_order b i c.in_ok-relocs.relocs.items read up))
