use Rattle.std.proofs.Common.{◌<◌, ◌∙◌, [], ap, sym, arith, length}
use Rattle.std.specs.List.{cons_option}
use Rattle.elf_out.specs.Executable.{flags_at, live_flags}
use Rattle.elf_out.specs.Headers.{first_flags}
use Rattle.elf_out.proofs.FlagSteps.{first_split}
use Rattle.lk_tables.specs.TablesView.{files_of}
use Rattle.elf_out.proofs.flags.first_flags.Goals as goal

pub loop-f-preserved : goal.loop-f-preserved
loop-f-preserved c =
    let below : c.loop-f.f < length (files_of c.args.tables.now) = omega arith in
    first_split (flags_at (files_of c.args.tables.now)) c.loop-f.f (length (files_of c.args.tables.now))
    (first_flags (live_flags (files_of c.args.tables.now))) [] below
    (sym c.flags_at.ensures ∙ ap (λ o. cons_option o []) c.in-None.is) c.loop-f.invariant
