use Rattle.std.proofs.Common.{◌≡◌, ◌+◌, length, map, drop, flat_map}
use Rattle.elf_fields.specs.Symbols.{zero_ended}
use Rattle.link_gen.specs.Contents.{row_name, section_names}
use Rattle.link_gen.proofs.sections.section_names_size.Given as goal

abbrev pub invariant-loop-section : goal.invariant-loop-section
invariant-loop-section l =
    l.size + length (flat_map zero_ended (map row_name (drop l.section-index l.sections))) ≡ length (section_names l.sections)
