use Rattle.std.proofs.Common.{◌≡◌, ◌++◌, map, drop}
use Rattle.link_gen.specs.Contents.{section_view}
use Rattle.link_gen.specs.Elf.{laid}
use Rattle.link_gen.proofs.generator.push_laid.Given as goal

abbrev pub invariant-loop-section : goal.invariant-loop-section
invariant-loop-section l =
    l.out.items ++ laid (map (section_view l.object) (drop l.section-index l.object.sections.now))
    ≡ l.fn.out.items ++ laid (map (section_view l.object) l.object.sections.now)
