use Rattle.elf_read.proofs.GroupLists.{taken_at}
use Rattle.elf_read.proofs.groups.is_taken.Goals as goal

pub returns : goal.returns
returns c = taken_at c.args.file.now.bytes.now c.args.index c.args.member c.args.taken.now _ c.requires.taken c.requires.member
