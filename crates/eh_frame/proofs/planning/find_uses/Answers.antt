use Rattle.std.proofs.Common.{ℕ, ◌<◌, [], List, Option, ap, arith, flat_map, get_or, length, subst, sym, take, ◌∙◌}
use Rattle.std.proofs.lemmas.List.{get_or-map, length-map}
use Rattle.lk_tables.specs.declared.records.FrameNo.{FrameNo}
use Rattle.lk_tables.specs.BindingView.{binding_view}
use Rattle.lk_tables.specs.Frames.{IsListWithin, RecordList, frames_where, list_view, lists_of}
use Rattle.lk_tables.specs.TablesView.{files_of}
use Rattle.link_sections.specs.PoolViews.{merged_views}
use Rattle.eh_frame.specs.Owners.{owners_in}
use Rattle.eh_frame.specs.Plan.{cie_key, cie_no, is_owner_in_place, written_fdes}
use Rattle.eh_frame.specs.Uses.{AddsList, AreUses, list_in}
use Rattle.eh_frame.proofs.FrameWalks.{list_read, lists_all, lists_more, lists_tell}
use Rattle.eh_frame.proofs.NotedCies.{none_found}
use Rattle.eh_frame.proofs.planning.find_uses.Goals as goal

pub loop-number-init : goal.loop-number-init
loop-number-init c =
    let files = files_of c.args.tables.now in
    let lists = lists_of c.args.frames.now in
    none_found (cie_key files (binding_view c.args.binding.now) (merged_views c.args.pools.now) lists) (cie_no lists) c.no_uses-found.result c.no_uses-found.ensures

pub push_section-requires-clause-list : goal.push_section-requires-clause-list
push_section-requires-clause-list c =
    let files = files_of c.args.tables.now in
    let frames = c.args.frames.now in
    let n = c.loop-number.number in
    let many : n < length frames.records.items = omega (arith, c.loop-number-test.true, c.len-number-end.ensures) in
    let read = list_read frames.records.items n c.index-list.result.now c.as_slice.result.now many c.index-list.ensures c.as_slice.ensures.value in
    let d = list_in c.index-list.result.now.0 c.as_slice.result.now in
    let P : RecordList → Type 0 = IsListWithin files in
    subst P (sym (read d)) (c.requires.within.within n d (omega (arith, many, length-map frames.records.items list_view)))

pub push_section-requires-clause-owners : goal.push_section-requires-clause-owners
push_section-requires-clause-owners c =
    let frames = c.args.frames.now in
    let lists = lists_of frames in
    let own : RecordList → List (Option ℕ) = owners_in (files_of c.args.tables.now) (binding_view c.args.binding.now) in
    let n = c.loop-number.number in
    let many : n < length frames.records.items = omega (arith, c.loop-number-test.true, c.len-number-end.ensures) in
    let read = list_read frames.records.items n c.index-list.result.now c.as_slice.result.now many c.index-list.ensures c.as_slice.ensures.value in
    let d = list_in c.index-list.result.now.0 c.as_slice.result.now in
    c.owners_at.ensures ∙ ap (λ (os : List (List (Option ℕ))). get_or os n []) c.requires.owners
    ∙ get_or-map own lists n d [] (omega (arith, many, length-map frames.records.items list_view)) ∙ ap own (sym (read d))

pub loop-number-preserved : goal.loop-number-preserved
loop-number-preserved c =
    let files = files_of c.args.tables.now in
    let b = binding_view c.args.binding.now in
    let merged = merged_views c.args.pools.now in
    let leaders = c.args.leaders.now in
    let frames = c.args.frames.now in
    let lists = lists_of frames in
    let key = cie_key files b merged lists in
    let own = cie_no lists in
    let give = frames_where files b (is_owner_in_place leaders merged) in
    let n = c.loop-number.number in
    let many : n < length frames.records.items = omega (arith, c.loop-number-test.true, c.len-number-end.ensures) in
    let lt : n < length lists = omega (arith, many, length-map frames.records.items list_view) in
    let read = list_read frames.records.items n c.index-list.result.now c.as_slice.result.now many c.index-list.ensures c.as_slice.ensures.value in
    let d = list_in c.index-list.result.now.0 c.as_slice.result.now in
    let A : RecordList → Type 0 = λ l. AddsList files b merged leaders l c.loop-number.found c.push_section.new.found in
    let adds = subst A (read d) c.in_ok-push_section.ensures in
    let P : List FrameNo → Type 0 = λ xs. AreUses key own xs c.push_section.new.found in
    subst P (lists_more give lists n d lt) (adds key own (flat_map give (take n lists)) (lists_tell files b merged lists n d c.requires.within.order lt) c.loop-number.invariant)

pub returns : goal.returns
unfolding written_fdes
returns c =
    let files = files_of c.args.tables.now in
    let b = binding_view c.args.binding.now in
    let frames = c.args.frames.now in
    let lists = lists_of frames in
    let P : List FrameNo → Type 0 = λ xs. AreUses (cie_key files b (merged_views c.args.pools.now) lists) (cie_no lists) xs c.loop-number.found in
    subst P (lists_all (frames_where files b (is_owner_in_place c.args.leaders.now (merged_views c.args.pools.now))) lists c.loop-number.number (omega (arith, length-map frames.records.items list_view))) c.loop-number.invariant
