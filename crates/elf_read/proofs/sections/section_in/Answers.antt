use Rattle.lk_tables.proofs.HeadFacts.{section_at}
use Rattle.elf_read.proofs.sections.section_in.Goals as goal

pub returns : goal.returns
returns c = section_at c.args.bytes.now c.args.sections.now c.args.index _ c.requires.sections c.requires.index
