use Rattle.std.proofs.Common.{◌≡◌, map}
use Rattle.std.specs.List.{range_with_len}
use Rattle.lk_tables.specs.Checks.{passes, from_on}
use Rattle.lk_tables.specs.FileHeader.{section_count}
use Rattle.lk_tables.specs.Heads.{all_section_checks}
use Rattle.lk_tables.specs.Sections.{section_of, section_checks, symtab_before, index_table_before, names_from, names_size}
use Rattle.elf_read.specs.Names.{IsLast}
use Rattle.elf_read.proofs.sections.read_sections.Given as goal

-- what is left of the checks passes as all do, and the sections so far are read
abbrev pub invariant-loop-index : goal.invariant-loop-index
invariant-loop-index l = record {
  so_far : passes (from_on (section_checks l.file.bytes.now) l.index (section_count l.file.bytes.now)) ≡ passes (all_section_checks l.file.bytes.now);
  items : l.list.items ≡ map (section_of l.file.bytes.now) (range_with_len 0 l.index);
  last_is : IsLast l.file.bytes.now (names_from l.file.bytes.now) (names_size l.file.bytes.now) l.last;
  symtab_is : l.symtab ≡ symtab_before l.file.bytes.now l.index;
  index_table_is : l.index_table ≡ index_table_before l.file.bytes.now l.index;
}
