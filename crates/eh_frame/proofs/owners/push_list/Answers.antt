use Rattle.std.proofs.Common.{ℕ, ◌<◌, List, Option, length, map, ap, sym, ◌∙◌, arith}
use Rattle.std.specs.Global.{Vec}
use Rattle.std.proofs.lemmas.List.{length-map}
use Rattle.lk_tables.specs.BindingView.{binding_view}
use Rattle.lk_tables.specs.Frames.{frame_no, list_view}
use Rattle.lk_tables.specs.RecordViews.{record_view}
use Rattle.lk_tables.specs.TablesView.{files_of}
use Rattle.lk_tables.specs.declared.records.FrameNo.{FrameNo}
use Rattle.eh_frame.specs.Owners.{with_frame}
use Rattle.eh_frame.proofs.Owning.{gone_list, owner_read, range_step, whole_list}
use Rattle.eh_frame.proofs.owners.push_list.Goals as goal

pub returns-then-is_discarded : goal.returns-then-is_discarded
returns-then-is_discarded c =
    gone_list (files_of c.args.tables.now) (binding_view c.args.binding.now) (list_view c.args.list.now) (map (λ (list : Vec FrameNo). list.items) c.args.of.now.items)
    (sym c.is_discarded.ensures ∙ c.if-is_discarded.true)

pub loop-at-preserved : goal.loop-at-preserved
loop-at-preserved c =
    let files = files_of c.args.tables.now in
    let b = binding_view c.args.binding.now in
    let l = list_view c.args.list.now in
    let now = map (λ (list : Vec FrameNo). list.items) c.loop-at.of.items in
    let frame = frame_no l.section c.loop-at.at in
    let lt : c.loop-at.at < length c.as_slice-records.result.now = omega arith in
    let owner = owner_read files b l c.args.owners.now c.loop-at.at c.owner_by.result
    (omega (arith, lt, ap length c.as_slice-records.ensures.value, length-map c.args.list.now.1.items record_view)) c.requires.owners c.owner_by.ensures in
    c.in_ok-push_frame.ensures
    ∙ ap (λ (o : Option ℕ). with_frame o frame now) owner
    ∙ ap (with_frame _ frame) c.loop-at.invariant
    ∙ sym (range_step files b l c.loop-at.at (map (λ (list : Vec FrameNo). list.items) c.args.of.now.items))

pub returns : goal.returns
returns c =
    whole_list (files_of c.args.tables.now) (binding_view c.args.binding.now) c.args.list.now c.as_slice-records.result.now c.loop-at.at (map (λ (list : Vec FrameNo). list.items) c.args.of.now.items) (map (λ (list : Vec FrameNo). list.items) c.loop-at.of.items)
    c.as_slice-records.ensures.value (omega arith) (omega arith) (sym c.is_discarded.ensures ∙ c.if-is_discarded.false) c.loop-at.invariant
