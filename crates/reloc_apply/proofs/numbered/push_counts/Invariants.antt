use Rattle.std.proofs.Common.{◌≡◌, ◌++◌, length, map}
use Rattle.std.specs.List.{range_with_len}
use Rattle.lk_tables.specs.Files.{file_at, relocs_at}
use Rattle.lk_tables.specs.TablesView.{files_of}
use Rattle.reloc_apply.proofs.numbered.push_counts.Given as goal

abbrev pub invariant-loop-section : goal.invariant-loop-section
invariant-loop-section l =
    l.counts.items ≡ l.fn.counts.items ++ map (λ k. length (relocs_at (file_at (files_of l.tables) l.file) k)) (range_with_len 0 l.section)
