use Rattle.elf_out.specs.Executable.{live_flags}
use Rattle.elf_out.proofs.FlagSteps.{kept_is}
use Rattle.lk_tables.specs.TablesView.{files_of}
use Rattle.elf_out.proofs.flags.kept_flags.Goals as goal

pub returns : goal.returns
returns c = rw (c.flags_together.ensures, c.first_flags.ensures) (kept_is (live_flags (files_of c.args.tables.now)))
