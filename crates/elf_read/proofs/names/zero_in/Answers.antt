use Rattle.elf_read.proofs.ZeroEnded.{position_is}
use Rattle.elf_read.proofs.names.zero_in.Goals as goal

pub returns : goal.returns
returns c = position_is c.args.bytes.now c.memchr.result c.memchr.ensures
