use Rattle.std.proofs.Common.{rules, append_assoc}
use Rattle.elf_fields.specs.Headers.{program_header}
use Rattle.elf_fields.proofs.headers.push_program_header.Goals as goal

pub returns : goal.returns
unfolding program_header
returns c = search (rules, append_assoc)
