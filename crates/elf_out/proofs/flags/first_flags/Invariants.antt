use Rattle.std.proofs.Common.{◌≡◌, ◌-◌, length, flat_map}
use Rattle.std.specs.List.{range_with_len}
use Rattle.elf_out.specs.Executable.{flags_at, live_flags}
use Rattle.elf_out.specs.Headers.{first_flags}
use Rattle.lk_tables.specs.TablesView.{files_of}
use Rattle.elf_out.proofs.flags.first_flags.Given as goal

abbrev pub invariant-loop-f : goal.invariant-loop-f
invariant-loop-f l =
    first_flags (flat_map (flags_at (files_of l.tables)) (range_with_len l.f (length (files_of l.tables) - l.f)))
    ≡ first_flags (live_flags (files_of l.tables))
