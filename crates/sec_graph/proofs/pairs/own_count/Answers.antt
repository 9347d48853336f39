use Rattle.std.proofs.Common.{ap, arith, length}
use Rattle.lk_tables.specs.Files.{File}
use Rattle.lk_tables.specs.TablesView.{files_of}
use Rattle.lk_tables.proofs.LiveFiles.{few_sections}
use Rattle.sec_graph.proofs.pairs.own_count.Goals as goal

pub overflow_cast-result : goal.overflow_cast-result
overflow_cast-result c =
    omega (
      arith,
      few_sections (files_of c.args.tables.now) c.args.file c.prove_few.ensures c.requires.file c.requires.live,
      ap length c.sections.ensures,
      ap (λ (file : File). length file.head.sections) c.file.ensures,
    )
