use Rattle.std.proofs.Common.{ℕ, Option, ap, get_or, sym, ◌∙◌, arith}
use Rattle.std.specs.Prelude.{unwrap_or}
use Rattle.std.proofs.lemmas.List.{length-map}
use Rattle.lk_tables.specs.BindingView.{binding_view}
use Rattle.lk_tables.specs.Frames.{frame_no, no_record, owner_in}
use Rattle.lk_tables.specs.RecordViews.{record_view, record_views}
use Rattle.lk_tables.specs.Sites.{place_of}
use Rattle.lk_tables.specs.TablesView.{files_of}
use Rattle.link_sections.specs.PoolViews.{merged_views}
use Rattle.eh_frame.specs.Uses.{cies_for, list_in, used_cie}
use Rattle.eh_frame.proofs.FrameWalks.{no_frame, one_led, record_read, used_is}
use Rattle.eh_frame.proofs.NotedCies.{fde_added, none_more}
use Rattle.eh_frame.proofs.Owning.{owner_read}
use Rattle.eh_frame.proofs.planning.push_record.Goals as goal

pub used_cie-requires : goal.used_cie-requires
used_cie-requires c =
    let files = files_of c.args.tables.now in
    let b = binding_view c.args.binding.now in
    let records = c.args.records.now in
    let l = list_in c.args.section records in
    let read = record_read records c.args.at c.index-records-at.result c.requires.at c.index-records-at.is in
    owner_read files b l c.args.owners.now c.args.at c.owner_by.result (omega (arith, c.requires.at, length-map records record_view)) c.requires.owners c.owner_by.ensures
    ∙ ap (owner_in files b (place_of files c.args.section).file) (sym read)

pub returns-in_default : goal.returns-in_default
returns-in_default c = λ key cie_of fdes tells are.
    let files = files_of c.args.tables.now in
    let b = binding_view c.args.binding.now in
    let merged = merged_views c.args.pools.now in
    let leaders = c.args.leaders.now in
    let f = (place_of files c.args.section).file in
    let read = record_read c.args.records.now c.args.at c.index-records-at.result c.requires.at c.index-records-at.is in
    none_more key cie_of fdes _ c.args.section c.args.known.now c.args.found.now
    (no_frame files b merged leaders f _ (frame_no c.args.section c.args.at) (c.in_default.ensures ∙ ap (used_cie files b merged leaders f) read)) are

pub number_of-requires-clause-cie : goal.number_of-requires-clause-cie
number_of-requires-clause-cie c =
    let files = files_of c.args.tables.now in
    let b = binding_view c.args.binding.now in
    let merged = merged_views c.args.pools.now in
    let leaders = c.args.leaders.now in
    let records = c.args.records.now in
    let many = length-map records record_view in
    let f = (place_of files c.args.section).file in
    let read = record_read records c.args.at c.index-records-at.result c.requires.at c.index-records-at.is in
    let two = used_is files b merged leaders f (get_or (record_views records) c.args.at no_record) c.in-Some.cie (c.in-Some.ensures ∙ ap (used_cie files b merged leaders f) read) in
    let within = c.requires.list.records c.args.at no_record (omega (arith, c.requires.at, many)) in
    omega (arith, within.cie c.in-Some.cie two.1, many)

pub returns : goal.returns
returns c = λ key cie_of fdes tells are.
    let files = files_of c.args.tables.now in
    let b = binding_view c.args.binding.now in
    let merged = merged_views c.args.pools.now in
    let leaders = c.args.leaders.now in
    let section = c.args.section in
    let at = c.args.at in
    let cie = c.in-Some.cie in
    let f = (place_of files section).file in
    let read = record_read c.args.records.now at c.index-records-at.result c.requires.at c.index-records-at.is in
    let two = used_is files b merged leaders f (get_or (record_views c.args.records.now) at no_record) cie (c.in-Some.ensures ∙ ap (used_cie files b merged leaders f) read) in
    let numbered = c.in_ok-number.ensures key cie_of (cies_for key cie_of fdes) tells are.uses.held are.are_known in
    fde_added key cie_of fdes section at cie c.in_ok-number.number _ _ _ _ are.uses numbered
    (tells.cies at ∙ ap (λ (o : Option ℕ). frame_no section (unwrap_or o 0)) two.1)
    c.in_ok-push.ensures.items c.in_ok-push-2.ensures.items (one_led files b merged leaders _ (frame_no section at) two.0)
