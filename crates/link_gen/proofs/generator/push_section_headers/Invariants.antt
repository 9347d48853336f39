use Rattle.std.proofs.Common.{drop}
use Rattle.link_gen.proofs.HeaderWalk.{Along}
use Rattle.link_gen.proofs.generator.push_section_headers.Given as goal

abbrev pub invariant-loop-section : goal.invariant-loop-section
invariant-loop-section l =
    Along l.object l.object.sections.now (drop l.section-index l.object.sections.now) l.fn.out.items l.out.items l.name l.offset l.section-index
