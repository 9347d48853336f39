use Rattle.str_merge.proofs.PoolTexts.{few_pieces}
use Rattle.str_merge.proofs.pooling.pool_pieces.Goals as goal

pub by_texts-requires-clause-few : goal.by_texts-requires-clause-few
by_texts-requires-clause-few g c κs bound = few_pieces c.args.work.now c.args.pool c.args.members.now c.requires.work c.requires.members
