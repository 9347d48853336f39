use Rattle.std.proofs.Common.{◌∙◌, arith}
use Rattle.str_merge.proofs.PoolTexts.{cuts_within, few_pieces}
use Rattle.str_merge.proofs.small_pools.pool_weights.Goals as goal

pub count_of-count-requires-clause-members : goal.count_of-count-requires-clause-members
count_of-count-requires-clause-members c =
    cuts_within c.args.work.now c.loop-pool.pool c.as_slice.result.now c.requires (c.as_slice.ensures.value ∙ c.requires.members_are c.loop-pool.pool _ (omega arith))

pub count_of-count-requires-clause-few : goal.count_of-count-requires-clause-few
count_of-count-requires-clause-few c =
    few_pieces c.args.work.now c.loop-pool.pool c.as_slice.result.now c.requires (c.as_slice.ensures.value ∙ c.requires.members_are c.loop-pool.pool _ (omega arith))
