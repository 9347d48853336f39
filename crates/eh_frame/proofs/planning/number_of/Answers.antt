use Rattle.std.proofs.Common.{sym, ap, ◌∙◌, subst, arith}
use Rattle.std.proofs.lemmas.List.{length-map}
use Rattle.lk_tables.specs.BindingView.{binding_view}
use Rattle.lk_tables.specs.Frames.{frame_no, no_record}
use Rattle.lk_tables.specs.Records.{RecordView}
use Rattle.lk_tables.specs.RecordViews.{record_view}
use Rattle.lk_tables.specs.TablesView.{files_of}
use Rattle.link_sections.specs.PoolViews.{merged_views}
use Rattle.eh_frame.specs.Plan.{CieKey, IsTextOf, key_of}
use Rattle.eh_frame.proofs.FrameWalks.{record_read}
use Rattle.eh_frame.proofs.NotedCies.{held_more, is_known, known_more, number_is}
use Rattle.eh_frame.proofs.planning.number_of.Goals as goal

pub returns-in-Some : goal.returns-in-Some
returns-in-Some c = λ key cie_of cies tells held known.
    is_known key cies c.args.section c.args.cie c.in-Some.number c.args.known.now c.args.firsts.now held known (sym c.in-Some.ensures)

pub cie_text-requires-clause-small : goal.cie_text-requires-clause-small
cie_text-requires-clause-small c =
    let records = c.args.records.now in
    let list = c.requires.list in
    let within = list.records c.args.cie no_record (omega (arith, c.requires.cie, length-map records record_view)) in
    let read = record_read records c.args.cie c.index-records-cie.result c.requires.cie c.index-records-cie.is in
    let len = ap (λ (r : RecordView). r.len) read in
    omega (arith, within.bytes, list.short, len)

pub returns : goal.returns
returns c = λ key cie_of cies tells held known.
    let files = files_of c.args.tables.now in
    let given = key_of files (binding_view c.args.binding.now) (merged_views c.args.pools.now) c.args.section in
    let text = c.in_ok-text.text in
    let own = frame_no c.args.section c.args.cie in
    let T : CieKey → Type 0 = λ k. IsTextOf k text.items in
    let same = ap given (record_read c.args.records.now c.args.cie c.index-records-cie.result c.requires.cie c.index-records-cie.is) ∙ sym (tells.keys c.args.cie) in
    let is = subst T same c.in_ok-text.ensures in
    let use_is = number_is key cies own text.items c.args.firsts.now c.in_ok-number.number held is c.in_ok-number.ensures.number in
    record {
      use_is = use_is;
      held = held_more key cies own text c.args.firsts.now c.note_cie.new.firsts held is c.in_ok-number.ensures.cies c.in_ok-number.ensures.texts;
      are_known = known_more key cies c.args.section c.args.cie c.in_ok-number.number c.args.known.now (omega (arith, c.requires.known, c.requires.cie)) known use_is;
    }
