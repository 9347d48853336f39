use Rattle.std.proofs.Common.{drop, map}
use Rattle.link_sections.specs.LaidOut.{output_view}
use Rattle.elf_out.specs.TablesView.{tables_if}
use Rattle.elf_out.proofs.NameSteps.{Counted}
use Rattle.elf_out.proofs.sections.names_size.Given as goal

abbrev pub invariant-loop-output : goal.invariant-loop-output
invariant-loop-output l = Counted (map output_view l.outputs) (map output_view (drop l.output-index l.outputs)) (tables_if l.tables) l.size
