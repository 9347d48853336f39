use Rattle.std.proofs.Common.{◌∙◌}
use Rattle.lk_tables.specs.TablesView.{files_of}
use Rattle.sym_resolve.proofs.NamedRanks.{rank_named}
use Rattle.sym_resolve.proofs.entry.rank_of_name.Goals as goal

pub returns : goal.returns
returns c = λ gone is. c.least_named.ensures ∙ rank_named (files_of c.args.tables.now) gone c.args.name.now c.args.offers.now c.prove_few.ensures.file_count c.prove_few.ensures.symbol_count is
