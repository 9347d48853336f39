use Rattle.std.proofs.Common.{◌+◌, ◌*◌, ◌==◌, ◌∙◌, ap, arith, cond, subst, sym}
use Rattle.std.specs.List.{All, sum_by}
use Rattle.lk_tables.specs.BindingView.{binding_view}
use Rattle.lk_tables.specs.FramePlans.{PlanView}
use Rattle.lk_tables.specs.Frames.{lists_of}
use Rattle.lk_tables.specs.TablesView.{files_of}
use Rattle.link_sections.specs.PoolViews.{merged_views}
use Rattle.eh_frame.specs.Laws.{IsPlanned, IsSmall}
use Rattle.eh_frame.specs.Plan.{frame_len_of, size_of}
use Rattle.eh_frame.proofs.Planned.{planned}
use Rattle.eh_frame.proofs.PlanLaws.{plan_laws}
use Rattle.eh_frame.proofs.Totals.{IsRead, found_cies, found_count, found_fdes, lists_read, plan_small}
use Rattle.eh_frame.proofs.planning.plan.Goals as goal

pub frame_len-frame_len-requires-clause-cies_most : goal.frame_len-frame_len-requires-clause-cies_most
frame_len-frame_len-requires-clause-cies_most g c =
    let files = files_of c.args.tables.now in
    let lists = lists_of c.args.frames.now in
    let read = subst (All IsRead) (sym c.requires.lists) (lists_read files) in
    let most = found_cies files lists c.requires.within c.prove_few.ensures.section_count_is read (binding_view c.args.binding.now) (merged_views c.args.pools.now) c.args.leaders.now c.in_ok-fdes.field-0 c.in_ok-fdes.ensures in
    omega (arith, most, ap (sum_by (size_of lists)) c.as_slice.ensures.value)

pub frame_len-frame_len-requires-clause-fdes_most : goal.frame_len-frame_len-requires-clause-fdes_most
frame_len-frame_len-requires-clause-fdes_most g c =
    let files = files_of c.args.tables.now in
    let lists = lists_of c.args.frames.now in
    let read = subst (All IsRead) (sym c.requires.lists) (lists_read files) in
    let most = found_fdes files lists c.requires.within c.prove_few.ensures.section_count_is read (binding_view c.args.binding.now) (merged_views c.args.pools.now) c.args.leaders.now c.in_ok-fdes.field-0 c.in_ok-fdes.ensures in
    omega (arith, most, ap (sum_by (size_of lists)) c.as_slice-2.ensures.value)

pub header_len-header_len-requires : goal.header_len-header_len-requires
header_len-header_len-requires g c =
    let files = files_of c.args.tables.now in
    let lists = lists_of c.args.frames.now in
    let found = c.in_ok-fdes.field-0 in
    let read = subst (All IsRead) (sym c.requires.lists) (lists_read files) in
    let most = found_count files lists c.requires.within c.prove_few.ensures.section_count_is read (binding_view c.args.binding.now) (merged_views c.args.pools.now) c.args.leaders.now found c.in_ok-fdes.ensures in
    omega (arith, most, c.len.ensures, found.fdes.ok.0)

pub returns-clause-plan : goal.returns-clause-plan
returns-clause-plan g c =
    let lists = lists_of c.args.frames.now in
    let found = c.in_ok-fdes.field-0 in
    planned (files_of c.args.tables.now) (binding_view c.args.binding.now) (merged_views c.args.pools.now) lists c.args.leaders.now found c.frame_len-frame_len.result c.header_len-header_len.result
    c.in_ok-fdes.ensures
    (c.frame_len-frame_len.ensures ∙ ap (λ fdes. frame_len_of lists fdes c.as_slice.result.now) c.as_slice-2.ensures.value ∙ ap (frame_len_of lists found.fdes.items) c.as_slice.ensures.value)
    (c.header_len-header_len.ensures ∙ ap (λ n. cond (n == 0) 0 (12 + 8 * n)) (c.len.ensures ∙ found.fdes.ok.0))

pub returns-clause-laws : goal.returns-clause-laws
returns-clause-laws g c =
    let files = files_of c.args.tables.now in
    let b = binding_view c.args.binding.now in
    let merged = merged_views c.args.pools.now in
    let lists = lists_of c.args.frames.now in
    let leaders = c.args.leaders.now in
    let P : PlanView → Type 0 = IsPlanned files b merged lists leaders in
    subst P (sym (returns-clause-plan g c)) (plan_laws files b merged lists leaders c.requires.within.order)

pub returns-clause-small : goal.returns-clause-small
returns-clause-small g c =
    let files = files_of c.args.tables.now in
    let lists = lists_of c.args.frames.now in
    let read = subst (All IsRead) (sym c.requires.lists) (lists_read files) in
    subst IsSmall (sym (returns-clause-plan g c))
    (plan_small files lists c.requires.within c.prove_few.ensures.section_count_is read (binding_view c.args.binding.now) (merged_views c.args.pools.now) c.args.leaders.now)
