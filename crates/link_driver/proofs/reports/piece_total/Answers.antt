use Rattle.std.proofs.Common.{◌<◌, ap, arith, length}
use Rattle.lk_tables.specs.TablesView.{files_of}
use Rattle.link_sections.specs.GotView.{entries_of}
use Rattle.link_sections.specs.LaidOut.{layout_view}
use Rattle.link_sections.specs.PoolViews.{piece_rows}
use Rattle.link_driver.proofs.Counting.{piece_end, piece_step, pieces_are}
use Rattle.link_driver.proofs.reports.piece_total.Goals as goal

pub overflow_cast-pool : goal.overflow_cast-pool
overflow_cast-pool c = omega (arith, c.prove_few_pools.ensures, c.loop-pool-test.true)

pub loop-pool-preserved : goal.loop-pool-preserved
loop-pool-preserved c =
    let view = c.args.view.now in
    let pools = view.pools.now in
    let i = c.loop-pool.pool in
    let lt : i < length pools.pools.items = omega (arith, c.loop-pool-test.true, ap length c.pools-pools.ensures.value) in
    let step = piece_step (files_of view.tables.now) pools.pools.items (piece_rows pools) i lt in
    let few = c.piece_count.type_inv in
    record {
      total = omega (arith, step, c.loop-pool.invariant.total, c.piece_count.ensures);
      few = omega (arith, c.loop-pool.invariant.few, few);
    }

pub returns : goal.returns
returns c =
    let view = c.args.view.now in
    let pools = view.pools.now in
    let files = files_of view.tables.now in
    let done = piece_end files pools.pools.items (piece_rows pools) c.loop-pool.pool (omega (arith, c.loop-pool-test.false, ap length c.pools-pools.ensures.value)) in
    let whole = pieces_are (layout_view view.layout.now) files pools (entries_of view.got.now) in
    omega (arith, done, whole, c.loop-pool.invariant.total)
