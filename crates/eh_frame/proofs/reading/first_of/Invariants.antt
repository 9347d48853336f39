use Rattle.std.proofs.Common.{◌≡◌, drop}
use Rattle.std.specs.Prelude.{find}
use Rattle.lk_tables.specs.Records.{has_width}
use Rattle.eh_frame.proofs.reading.first_of.Given as goal

abbrev pub invariant-loop-reloc : goal.invariant-loop-reloc
invariant-loop-reloc l = find has_width (drop l.reloc-index l.relocs) ≡ find has_width l.relocs
