use Rattle.std.proofs.Common.{map}
use Rattle.link_sections.specs.LaidOut.{output_view}
use Rattle.elf_out.specs.TablesView.{tables_if}
use Rattle.elf_out.proofs.NameSteps.{counted_first}
use Rattle.elf_out.proofs.sections.names_size.Goals as goal

pub loop-output-init : goal.loop-output-init
loop-output-init c = counted_first (map output_view c.args.outputs.now) (tables_if c.args.tables.now) c.fixed_size-size.result c.fixed_size-size.ensures.value c.fixed_size-size.ensures.small
