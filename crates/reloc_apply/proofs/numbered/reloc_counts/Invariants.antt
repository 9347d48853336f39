use Rattle.std.proofs.Common.{◌≡◌, length}
use Rattle.lk_tables.specs.Files.{file_at, relocs_at}
use Rattle.lk_tables.specs.TablesView.{files_of}
use Rattle.lk_tables.proofs.ByNumber.{section_rows}
use Rattle.reloc_apply.proofs.numbered.reloc_counts.Given as goal

abbrev pub invariant-loop-file : goal.invariant-loop-file
invariant-loop-file l = l.counts.items ≡ section_rows (files_of l.tables) (λ f k. length (relocs_at (file_at (files_of l.tables) f) k)) l.file
