use Rattle.std.proofs.Common.{arith}
use Rattle.elf_out.proofs.Outputs.{count_is, few_outputs}
use Rattle.elf_out.proofs.segments.section_count.Goals as goal

pub overflow_cast-outputs : goal.overflow_cast-outputs
overflow_cast-outputs c = omega (arith, few_outputs c.args.view.now, c.len-outputs.ensures)

pub overflow_add-result : goal.overflow_add-result
overflow_add-result c = omega (arith, few_outputs c.args.view.now, c.len-outputs.ensures, c.table_count.ensures.most)

pub overflow_add-result-2 : goal.overflow_add-result-2
overflow_add-result-2 c = omega (arith, few_outputs c.args.view.now, c.len-outputs.ensures, c.table_count.ensures.most)

pub returns-clause-value : goal.returns-clause-value
returns-clause-value c = omega (arith, count_is c.args.view.now, c.len-outputs.ensures, c.table_count.ensures.value)
