use Rattle.std.proofs.Common.{◌≡◌, ◌<◌, ◌^◌, map}
use Rattle.std.specs.List.{All, range_with_len}
use Rattle.lk_tables.specs.Checks.{passes, from_on}
use Rattle.lk_tables.specs.Relocations.{entry_checks, reloc, rela_count, end_of}
use Rattle.elf_read.proofs.relocations.read_entries.Given as goal

-- what is left of the checks passes as all do, and the entries so far are read
abbrev pub invariant-loop-entry : goal.invariant-loop-entry
invariant-loop-entry l = record {
  so_far : passes (from_on (entry_checks l.file.bytes.now l.index) l.entry (rela_count l.file.bytes.now l.index))
      ≡ passes (from_on (entry_checks l.file.bytes.now l.index) 0 (rela_count l.file.bytes.now l.index));
  items : l.relocs.items ≡ map (reloc l.file.bytes.now l.index) (range_with_len 0 l.entry);
  ends : All (λ r. end_of l.contents r < 2 ^ 64) l.relocs.items;
}
