use Rattle.std.proofs.Common.{◌≡◌, map}
use Rattle.lk_tables.specs.Bodies.{body_checks, all_body_checks}
use Rattle.lk_tables.specs.Checks.{passes, from_on}
use Rattle.lk_tables.specs.FileHeader.{section_count}
use Rattle.lk_tables.specs.Objects.{group_view}
use Rattle.elf_read.specs.Groups.{groups_before, taken_before}
use Rattle.elf_read.specs.RelaSections.{marks_before, lists_before}
use Rattle.elf_read.proofs.section_bodies.read_sections.Given as goal

-- what is left of the checks passes as all do, and the marks, lists and groups are those of the sections so far
abbrev pub invariant-loop-index : goal.invariant-loop-index
invariant-loop-index l = record {
  so_far : passes (from_on (body_checks l.file.bytes.now) l.index (section_count l.file.bytes.now)) ≡ passes (all_body_checks l.file.bytes.now);
  marks_are : l.marks ≡ marks_before l.file.bytes.now l.index;
  taken_are : l.taken ≡ taken_before l.file.bytes.now l.index;
  groups_are : map group_view l.groups.items ≡ groups_before l.file.bytes.now l.index;
  lists_are : map (λ list. list.items) l.lists ≡ lists_before l.file.bytes.now l.index;
}
