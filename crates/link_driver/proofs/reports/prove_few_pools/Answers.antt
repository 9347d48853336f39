use Rattle.std.proofs.Common.{◌-◌, arith, length}
use Rattle.link_sections.specs.declared.pools.Pool.{Pool}
use Rattle.link_driver.proofs.Counting.{few_firsts}
use Rattle.link_driver.proofs.reports.prove_few_pools.Goals as goal

abbrev no_pool : Pool
no_pool = record { first = 0; size = 0 }

pub returns : goal.returns
returns c =
    let ps = c.args.pools.now in
    let low = few_firsts ps (length ps - 1) no_pool c.requires (omega (arith, c.if-pools-eq0.false)) in
    omega (arith, low, c.first_of.ensures.value, c.first_of.ensures.few)
