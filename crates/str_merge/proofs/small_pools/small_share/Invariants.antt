use Rattle.work_split.specs.Shares.{EachFrom}
use Rattle.str_merge.specs.Pooling.{IsReady}
use Rattle.str_merge.proofs.small_pools.small_share.Given as goal

abbrev pub invariant-loop-pool : goal.invariant-loop-pool
invariant-loop-pool g l = EachFrom (IsReady l.work) l.fn.share.start l.pool l.list.items
