use Rattle.std.proofs.Common.{◌≡◌, ◌+◌, ◌*◌, ◌≤◌, ◌^◌}
use Rattle.lk_tables.specs.TablesView.{files_of}
use Rattle.link_sections.specs.PoolViews.{piece_rows}
use Rattle.link_driver.proofs.Counting.{pieces_left}
use Rattle.link_driver.proofs.reports.piece_total.Given as goal

abbrev pub invariant-loop-pool : goal.invariant-loop-pool
invariant-loop-pool l = record {
  total : l.count + pieces_left (files_of l.view.tables.now) l.view.pools.now.pools.items (piece_rows l.view.pools.now) l.pool
      ≡ pieces_left (files_of l.view.tables.now) l.view.pools.now.pools.items (piece_rows l.view.pools.now) 0;
  few : l.count ≤ l.pool * 2 ^ 64;
}
