use Rattle.std.proofs.Common.{arith}
use Rattle.lk_tables.proofs.FirstNumbers.{first_within}
use Rattle.link_sections.specs.Views.{files_in}
use Rattle.symbol_table.proofs.entries.is_taken.Goals as goal

pub rank_of-rank-requires-clause-symbol : goal.rank_of-rank-requires-clause-symbol
rank_of-rank-requires-clause-symbol c =
    omega (arith, c.requires.symbol, c.prove_few.ensures.symbol_count, first_within (files_in c.args.view.now) c.args.file c.requires.file)
