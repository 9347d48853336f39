use Rattle.std.proofs.Common.{ap, arith, length}
use Rattle.lk_tables.specs.Files.{File}
use Rattle.lk_tables.specs.TablesView.{files_of}
use Rattle.lk_tables.proofs.FirstNumbers.{first_within}
use Rattle.sec_graph.proofs.prevailing.stand_in_file.Goals as goal

pub overflow_cast-symbol : goal.overflow_cast-symbol
overflow_cast-symbol c =
    omega (
      arith,
      ap length c.symbols-symbols.ensures,
      ap (λ (file : File). length file.head.symbols) c.file.ensures,
      c.prove_few.ensures.symbol_count,
      first_within (files_of c.args.tables.now) c.args.file c.requires,
    )
