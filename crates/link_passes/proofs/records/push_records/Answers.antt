use Rattle.std.proofs.Common.{true, false, sym, ◌∙◌}
use Rattle.std.proofs.lemmas.Result.{err_from_is_err_and}
use Rattle.lk_tables.specs.FileView.{file_view}
use Rattle.lk_tables.specs.Frames.{list_views}
use Rattle.lk_tables.specs.Objects.{object_view}
use Rattle.lk_tables.specs.RecordViews.{record_views}
use Rattle.lk_tables.proofs.Passing.{fails_as}
use Rattle.link_passes.proofs.WholeBodies.{no_more, none_there, one_more, some_fail, some_pass}
use Rattle.link_passes.proofs.records.push_records.Goals as goal

pub returns-then-not-is_frame-clause-checked : goal.returns-then-not-is_frame-clause-checked
returns-then-not-is_frame-clause-checked c =
    let file = file_view c.args.file.now in
    let off = sym c.is_frame.ensures ∙ c.if-not-is_frame.true in
    none_there file c.args.index c.requires.head c.requires.index off

pub returns-then-not-is_frame-clause-lists : goal.returns-then-not-is_frame-clause-lists
returns-then-not-is_frame-clause-lists c =
    let file = file_view c.args.file.now in
    let off = sym c.is_frame.ensures ∙ c.if-not-is_frame.true in
    no_more file c.args.index c.requires.head c.requires.index (list_views c.args.lists.now.items) off

pub returns-in_err-records-clause-checked : goal.returns-in_err-records-clause-checked
returns-in_err-records-clause-checked c =
    let file = file_view c.args.file.now in
    let p = err_from_is_err_and c.from_residual.result c.from_residual.ensures.1 in
    let on = sym c.is_frame.ensures ∙ c.if-not-is_frame.false in
    let bad = rw c.bytes.ensures at c.in_err-records.ensures.exact in
    rw (p.1, p.2) (fails_as _ _ _ (λ flaw h. some_fail file c.args.index c.requires.head c.requires.index flaw on h) bad)

pub returns-clause-checked : goal.returns-clause-checked
returns-clause-checked c =
    let file = file_view c.args.file.now in
    let on = sym c.is_frame.ensures ∙ c.if-not-is_frame.false in
    let read = rw c.bytes.ensures at c.in_ok-records.ensures.exact in
    some_pass file c.args.index c.requires.head c.requires.index (record_views c.in_ok-records.records.items) on read

pub returns-clause-lists : goal.returns-clause-lists
returns-clause-lists c =
    let file = file_view c.args.file.now in
    let on = sym c.is_frame.ensures ∙ c.if-not-is_frame.false in
    let read = rw c.bytes.ensures at c.in_ok-records.ensures.exact in
    one_more file c.args.index c.requires.head c.requires.index (object_view c.args.object.now) c.args.lists.now.items c.push.new.self.items c.in_ok-records.records on c.requires.object read c.in_ok-push.ensures.items
