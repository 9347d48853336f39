use Rattle.std.proofs.Common.{◌+◌, get_or, sym}
use Rattle.lk_tables.specs.Files.{no_reloc}
use Rattle.elf_read.proofs.PairWalks.{no_pair_past}
use Rattle.elf_read.proofs.relocations.starts_pair.Goals as goal

pub returns-in-None : goal.returns-in-None
returns-in-None c =
    sym (no_pair_past c.args.relocs.now (c.args.k + 1) (get_or c.args.relocs.now c.args.k no_reloc) c.in-None.ensures.lookup.3)
