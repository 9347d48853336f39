use Rattle.elf_read.proofs.RelocLists.{mark_at}
use Rattle.elf_read.proofs.rela_sections.is_marked.Goals as goal

pub returns : goal.returns
returns c = mark_at c.args.file.now.bytes.now c.args.index c.args.target c.args.marks.now _ c.requires.marks c.requires.target
