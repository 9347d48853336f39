use Rattle.std.proofs.Common.{arith}
use Rattle.lk_tables.specs.Files.{file_at}
use Rattle.lk_tables.specs.TablesView.{files_of}
use Rattle.lk_tables.proofs.FirstNumbers.{section_within}
use Rattle.lk_tables.proofs.LiveFiles.{counted}
use Rattle.sec_graph.proofs.pairs.number_of.Goals as goal

pub overflow_cast-result : goal.overflow_cast-result
overflow_cast-result c =
    let files = files_of c.args.tables.now in
    omega (
      arith,
      c.section_no.ensures,
      c.requires.index,
      c.prove_few.ensures.section_count_is,
      counted (file_at files c.args.file) c.requires.live,
      section_within files c.args.file c.requires.file,
    )
