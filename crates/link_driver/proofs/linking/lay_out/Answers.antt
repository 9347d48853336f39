use Rattle.std.proofs.Common.{List, ap, sym, subst, ◌∙◌}
use Rattle.std.proofs.lemmas.Result.{err_from_is_err_and}
use Rattle.output_sections.specs.Items.{HaveFirsts}
use Rattle.layout.specs.Layout.{layout_defects}
use Rattle.link_sections.specs.declared.pools.Pool.{Pool}
use Rattle.link_sections.specs.GotEntries.{word_count}
use Rattle.link_sections.specs.GotView.{entries_of}
use Rattle.link_sections.specs.PoolViews.{pool_heads}
use Rattle.link_sections.specs.SizesView.{sizes_of}
use Rattle.link_sections.proofs.PoolHeads.{pool_heads_are}
use Rattle.lk_tables.specs.BindingView.{binding_view}
use Rattle.lk_tables.specs.FramePlans.{plan_view}
use Rattle.lk_tables.specs.TablesView.{files_of}
use Rattle.lk_base.specs.declared.defects.Defect.{Defect}
use Rattle.lk_base.specs.Firsts.{StopsAt}
use Rattle.link_sections.specs.LaidOut.{layout_view}
use Rattle.link_passes.specs.Tables.{link_options}
use Rattle.link_driver.proofs.Fitting.{firsts_stay, sizes_fit}
use Rattle.link_driver.proofs.Leading.{defects_are, laid_are}
use Rattle.link_driver.proofs.SymbolPlaces.{laid_symbols}
use Rattle.link_driver.proofs.Whole.{header_room}
use Rattle.link_driver.proofs.linking.lay_out.Goals as goal

pub order_sections-requires-clause-pools : goal.order_sections-requires-clause-pools
order_sections-requires-clause-pools g c = λ κs bound.
    let files = files_of c.args.tables.now in
    let b = binding_view c.args.binding.now in
    let P : List Pool → Type 0 = λ pools. HaveFirsts files b pools in
    subst P (sym (ap pool_heads c.requires.pools) ∙ pool_heads_are files c.args.pools.now) (firsts_stay files b c.args.kept.now c.requires.stay)

pub place-requires-clause-pools : goal.place-requires-clause-pools
place-requires-clause-pools g c =
    let files = files_of c.args.tables.now in
    let b = binding_view c.args.binding.now in
    let P : List Pool → Type 0 = λ pools. HaveFirsts files b pools in
    subst P (sym (ap pool_heads c.requires.pools) ∙ pool_heads_are files c.args.pools.now) (firsts_stay files b c.args.kept.now c.requires.stay)

pub place-requires-clause-small : goal.place-requires-clause-small
place-requires-clause-small g c = record { header = c.requires.small.header; frame = c.requires.small.frame }

pub place-requires-clause-sizes : goal.place-requires-clause-sizes
place-requires-clause-sizes g c =
    sizes_fit (files_of c.args.tables.now) (binding_view c.args.binding.now) (sizes_of c.in_ok-sizes.sizes)
    c.in_ok-sizes.ensures.fit

pub returns-clause-goes : goal.returns-clause-goes
returns-clause-goes g c =
    let files = files_of c.args.tables.now in
    let b = binding_view c.args.binding.now in
    let w = link_options c.args.options c.args.barred.now in
    sym (defects_are w files b c.args.kept.now c.args.pools.now c.requires.pools c.args.leaders.now c.requires.leaders (entries_of c.args.got.now) c.requires.table
    c.in_ok-sections.sections.rows c.in_ok-sections.ensures.order (sizes_of c.in_ok-sizes.sizes) c.in_ok-sizes.ensures.cuts (plan_view c.args.plan.now) c.requires.plan c.args.limits.now) ∙ c.in_ok-layout.ensures.goes

pub returns-clause-laid : goal.returns-clause-laid
returns-clause-laid g c =
    let files = files_of c.args.tables.now in
    let b = binding_view c.args.binding.now in
    let w = link_options c.args.options c.args.barred.now in
    laid_are w files b c.args.kept.now c.args.pools.now c.requires.pools c.args.leaders.now c.requires.leaders (entries_of c.args.got.now) c.requires.table
    c.in_ok-sections.sections.rows c.in_ok-sections.ensures.order (sizes_of c.in_ok-sizes.sizes) c.in_ok-sizes.ensures.cuts (plan_view c.args.plan.now) c.requires.plan (layout_view c.in_ok-layout.layout) c.in_ok-layout.ensures.found

pub returns-in_err-layout-clause-goes : goal.returns-in_err-layout-clause-goes
returns-in_err-layout-clause-goes g c =
    let p = err_from_is_err_and c.from_residual-in_err-layout.result c.from_residual-in_err-layout.ensures.1 in
    let files = files_of c.args.tables.now in
    let b = binding_view c.args.binding.now in
    let w = link_options c.args.options c.args.barred.now in
    let P : List Defect → Type 0 = λ ds. StopsAt c.in_err-layout.field-0.0 ds in
    rw (p.1, p.2) (subst P (defects_are w files b c.args.kept.now c.args.pools.now c.requires.pools c.args.leaders.now c.requires.leaders (entries_of c.args.got.now) c.requires.table
    c.in_ok-sections.sections.rows c.in_ok-sections.ensures.order (sizes_of c.in_ok-sizes.sizes) c.in_ok-sizes.ensures.cuts (plan_view c.args.plan.now) c.requires.plan c.args.limits.now) c.in_err-layout.ensures.goes)

pub prove_calls_reach-requires-clause-pools : goal.prove_calls_reach-requires-clause-pools
prove_calls_reach-requires-clause-pools g c =
    let files = files_of c.args.tables.now in
    let b = binding_view c.args.binding.now in
    let P : List Pool → Type 0 = λ pools. HaveFirsts files b pools in
    subst P (sym (ap pool_heads c.requires.pools) ∙ pool_heads_are files c.args.pools.now) (firsts_stay files b c.args.kept.now c.requires.stay)

pub prove_calls_reach-requires-clause-room : goal.prove_calls_reach-requires-clause-room
prove_calls_reach-requires-clause-room g c =
    ap (layout_defects c.args.limits.now (files_of c.args.tables.now)) c.in_ok-layout.ensures.found ∙ c.in_ok-layout.ensures.goes

pub returns-clause-room : goal.returns-clause-room
returns-clause-room g c = header_room c.in_ok-layout.layout.bounds c.in_ok-layout.ensures.segments c.in_ok-layout.ensures.rising

pub returns-clause-symbols : goal.returns-clause-symbols
returns-clause-symbols g c =
    laid_symbols c.args.tables.now (binding_view c.args.binding.now) c.args.kept.now c.args.pools.now (word_count (entries_of c.args.got.now)) c.args.leaders.now
    (layout_view c.in_ok-layout.layout) (entries_of c.args.got.now) c.requires.bound c.requires.lead c.requires.alike c.requires.outputs (c.in_ok-layout.ensures.sound c.requires.limits)
    c.in_ok-layout.ensures.held
