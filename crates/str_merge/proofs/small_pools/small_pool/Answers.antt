use Rattle.std.proofs.Common.{ℕ, List, subst, ◌∙◌}
use Rattle.str_merge.specs.Pooling.{IsPoolOf}
use Rattle.str_merge.proofs.PoolTexts.{cuts_within, few_pieces}
use Rattle.str_merge.proofs.small_pools.small_pool.Goals as goal

pub count_of-count-requires-clause-members : goal.count_of-count-requires-clause-members
count_of-count-requires-clause-members g c =
    cuts_within c.args.work.now c.args.pool c.as_slice-members.result.now c.requires.work (c.as_slice-members.ensures.value ∙ c.requires.work.members_are c.args.pool _ c.requires.pool)

pub count_of-count-requires-clause-few : goal.count_of-count-requires-clause-few
count_of-count-requires-clause-few g c =
    few_pieces c.args.work.now c.args.pool c.as_slice-members.result.now c.requires.work (c.as_slice-members.ensures.value ∙ c.requires.work.members_are c.args.pool _ c.requires.pool)

pub by_texts-requires-clause-few : goal.by_texts-requires-clause-few
by_texts-requires-clause-few g c κs bound =
    few_pieces c.args.work.now c.args.pool c.as_slice-members.result.now c.requires.work (c.as_slice-members.ensures.value ∙ c.requires.work.members_are c.args.pool _ c.requires.pool)

pub by_texts-requires-clause-members : goal.by_texts-requires-clause-members
by_texts-requires-clause-members g c κs bound = c.as_slice-members.ensures.value ∙ c.requires.work.members_are c.args.pool _ c.requires.pool

pub returns : goal.returns
returns g c =
    let w = c.args.work.now in
    let P : List ℕ → Type 0 = λ l. IsPoolOf w c.args.pool l c.in_ok-pooled.pooled in
    subst P (c.as_slice-members.ensures.value ∙ c.requires.work.members_are c.args.pool _ c.requires.pool) c.in_ok-pooled.ensures
