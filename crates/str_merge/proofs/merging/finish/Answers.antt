use Rattle.std.proofs.Common.{List, length, ap, sym, ◌∙◌, arith}
use Rattle.lk_tables.specs.TablesView.{files_of}
use Rattle.link_sections.specs.declared.pools.Pool.{Pool}
use Rattle.link_sections.specs.PoolViews.{merged_by, merged_views, piece_rows, pool_views, pools_view}
use Rattle.str_merge.specs.Spreading.{spread}
use Rattle.str_merge.specs.Works.{nth_site}
use Rattle.std.proofs.lemmas.List.{length-map}
use Rattle.str_merge.proofs.PoolOrder.{filled_rises, pools_are_of, spread_is}
use Rattle.str_merge.proofs.PoolRooms.{rooms_most}
use Rattle.str_merge.proofs.merging.finish.Goals as goal

pub of-requires : goal.of-requires
of-requires c =
    let w = c.args.work.now in
    let room = c.requires.filled.room in
    let bytes = c.requires.work.small.bytes in
    record {
      rising = filled_rises c.args.work.now c.args.filled c.requires.work c.requires.filled;
      small = omega (arith, room, bytes, rooms_most (files_of w.tables.now) w.kept.now (length w.firsts.now));
      ordered = c.requires.filled.ordered;
      piled = c.requires.filled.piled;
    }

pub returns-clause-value : goal.returns-clause-value
unfolding pools_view
returns-clause-value c =
    let w = c.args.work.now in
    let files = files_of w.tables.now in
    let kept = w.kept.now in
    let parts = c.args.filled.rows.parts in
    let count = sym (length-map w.firsts.now (nth_site files kept)) ∙ ap length c.requires.work.firsts_are in
    pools_are_of files kept (pool_views files c.of.result.pools.items (piece_rows c.of.result)) (merged_views c.of.result) (length w.firsts.now) count
    (ap (λ (l : List Pool). pool_views files l (piece_rows c.of.result)) c.of.ensures.pools ∙ ap (pool_views files c.args.filled.pools.items) c.of.ensures.pieces ∙ c.requires.filled.pools_are)
    (c.of.ensures.merged ∙ ap (merged_by parts) (c.in_ok-merged.ensures ∙ ap (spread files kept) c.as_slice.ensures.value) ∙ spread_is w c.args.filled c.requires.work c.requires.filled)

pub returns-clause-rows : goal.returns-clause-rows
returns-clause-rows c = ap length c.of.ensures.pieces ∙ sym c.requires.filled.paired ∙ ap length (sym c.of.ensures.pools)
