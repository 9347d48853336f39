use Rattle.std.proofs.Common.{arith}
use Rattle.lk_tables.proofs.FirstNumbers.{first_within}
use Rattle.lk_tables.specs.TablesView.{files_of}
use Rattle.link_sections.proofs.got_lists.key_of.Goals as goal

pub overflow_cast-result : goal.overflow_cast-result
overflow_cast-result c = omega (arith, c.symbol_no.ensures, first_within (files_of c.args.tables.now) c.args.file c.requires.file, c.requires.symbol, c.prove_few.ensures.symbol_count)
