use Rattle.std.proofs.Common.{◌≡◌, ◌≤◌, ◌+◌, ◌*◌, length, map, drop}
use Rattle.link_gen.specs.Contents.{section_view}
use Rattle.link_gen.specs.Elf.{laid}
use Rattle.link_gen.proofs.generator.table_offset.Given as goal

abbrev pub invariant-loop-section : goal.invariant-loop-section
invariant-loop-section l =
    (l.offset + length (laid (map (section_view l.object) (drop l.section-index l.object.sections.now)))
    ≡ 64 + length (laid (map (section_view l.object) l.object.sections.now)))
    × (l.offset ≤ 64 + 131072 * l.section-index)
