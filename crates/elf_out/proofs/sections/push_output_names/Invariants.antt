use Rattle.std.proofs.Common.{◌≡◌, ◌++◌, drop, map}
use Rattle.elf_out.specs.Headers.{output_names}
use Rattle.link_sections.specs.LaidOut.{output_view}
use Rattle.elf_out.proofs.sections.push_output_names.Given as goal

abbrev pub invariant-loop-output : goal.invariant-loop-output
invariant-loop-output l =
    l.out.items ++ output_names (map output_view (drop l.output-index l.outputs)) ≡ l.fn.out.items ++ output_names (map output_view l.outputs)
