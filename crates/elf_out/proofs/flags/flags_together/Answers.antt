use Rattle.std.proofs.Common.{◌<◌, ◌∙◌, ap, arith, length}
use Rattle.elf_out.specs.Executable.{flags_at, live_flags}
use Rattle.elf_out.specs.Headers.{flags_together}
use Rattle.elf_out.proofs.FlagSteps.{flags_from, together_next}
use Rattle.lk_tables.specs.TablesView.{files_of}
use Rattle.elf_out.proofs.flags.flags_together.Goals as goal

pub loop-f-preserved : goal.loop-f-preserved
loop-f-preserved c =
    let below : c.loop-f.f < length (files_of c.args.tables.now) = omega arith in
    together_next (flags_at (files_of c.args.tables.now)) c.loop-f.f (length (files_of c.args.tables.now)) c.loop-f.found
    c.with_flags-found.result (flags_together (live_flags (files_of c.args.tables.now))) below
    (c.with_flags-found.ensures ∙ ap (flags_from c.loop-f.found) c.flags_at.ensures) c.loop-f.invariant
