use Rattle.str_merge.proofs.SmallSites.{small_of}
use Rattle.str_merge.proofs.merging.prove_small.Goals as goal

pub returns : goal.returns
returns c = small_of c.args.tables.now c.args.kept.now c.requires.written c.prove_few.ensures.section_count_is c.requires.pieces
