use Rattle.std.proofs.Common.{drop, map}
use Rattle.link_sections.specs.LaidOut.{output_view}
use Rattle.elf_out.proofs.NameSteps.{Along}
use Rattle.elf_out.proofs.sections.push_output_headers.Given as goal

abbrev pub invariant-loop-output : goal.invariant-loop-output
invariant-loop-output l =
    Along (map output_view l.outputs) (map output_view (drop l.output-index l.outputs)) l.fn.out.items l.out.items l.name
