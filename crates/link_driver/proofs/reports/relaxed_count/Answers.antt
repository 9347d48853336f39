use Rattle.std.proofs.Common.{◌≡◌, ◌∙◌, List, not, sym, ap, arith, length, get_or, []}
use Rattle.std.specs.Prelude.{filter}
use Rattle.lk_base.proofs.Loops.{count_step}
use Rattle.lk_tables.specs.TablesView.{files_of}
use Rattle.link_sections.specs.declared.cuts.Cut.{Cut as HeldCut}
use Rattle.link_sections.specs.Cuts.{Cut}
use Rattle.link_sections.specs.GotView.{entries_of}
use Rattle.link_sections.specs.LaidOut.{cuts_at}
use Rattle.link_sections.specs.PoolViews.{pools_view}
use Rattle.link_sections.specs.Views.{laid_in}
use Rattle.link_driver.specs.Reports.{short_calls}
use Rattle.link_driver.proofs.Counting.{cuts_are, short_count}
use Rattle.link_driver.proofs.reports.relaxed_count.Goals as goal

pub loop-section-preserved : goal.loop-section-preserved
loop-section-preserved c =
    let view = c.args.view.now in
    let i = c.loop-section.section in
    let cuts = c.cuts.result.now in
    let same = cuts_are view.layout.now (pools_view (files_of view.tables.now) view.pools.now) (entries_of view.got.now) i in
    let here : length (short_calls (cuts_at (laid_in view) i)) ≡ c.short_calls.result =
    ap (λ (l : List Cut). length (short_calls l)) same ∙ short_count (get_or view.layout.now.sizes.rows i [])
    ∙ ap (λ (l : List HeldCut). length (filter (λ (c : HeldCut). not c.is_align) l)) (sym c.cuts.ensures.value) ∙ sym c.short_calls.ensures in
    let step = count_step (λ n. short_calls (cuts_at (laid_in view) n)) i in
    record {
      total = omega (arith, here, step, c.loop-section.invariant.total);
      few = omega (arith, c.loop-section.invariant.few, c.short_calls.type_inv);
    }
