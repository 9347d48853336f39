use Rattle.std.proofs.Common.{ap, arith}
use Rattle.lk_tables.specs.TablesView.{files_of}
use Rattle.link_sections.specs.MergeSections.{PoolKey}
use Rattle.link_sections.specs.Merging.{pool_site}
use Rattle.str_merge.proofs.WorkFacts.{align_most, key_at}
use Rattle.str_merge.proofs.PoolFacts.{align_some}
use Rattle.str_merge.proofs.pooling.align_of.Goals as goal

pub returns-clause-value : goal.returns-clause-value
returns-clause-value c = ap (λ (k : PoolKey). k.align) (key_at c.args.work.now c.args.pool c.requires.work c.requires.pool)

pub returns-clause-some : goal.returns-clause-some
returns-clause-some c =
    let w = c.args.work.now in
    let files = files_of w.tables.now in
    let is = ap (λ (k : PoolKey). k.align) (key_at w c.args.pool c.requires.work c.requires.pool) in
    let some = align_some files (pool_site files w.kept.now c.args.pool) in
    omega (arith, is, some)

pub returns-clause-most : goal.returns-clause-most
returns-clause-most c =
    let w = c.args.work.now in
    let is = ap (λ (k : PoolKey). k.align) (key_at w c.args.pool c.requires.work c.requires.pool) in
    let most = align_most w c.args.pool c.requires.work c.requires.pool in
    omega (arith, is, most)
