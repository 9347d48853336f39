use Rattle.std.proofs.Common.{arith}
use Rattle.elf_out.proofs.blocks.prove_short.Goals as goal

pub returns : goal.returns
returns c = omega (arith, c.requires.ends.end, c.requires.ends.small)
