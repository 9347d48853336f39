use Rattle.std.proofs.Common.{List, sym, ap, ◌∙◌, subst}
use Rattle.lk_tables.specs.BindingView.{binding_view}
use Rattle.lk_tables.specs.Frames.{AreListsWithin, RecordList, all_frames, all_lists, list_views}
use Rattle.lk_tables.specs.TablesView.{files_of}
use Rattle.link_passes.proofs.FrameLists.{both_of, records_few, sections_known}
use Rattle.link_passes.proofs.frames.find_frames.Goals as goal

pub table-requires-clause-sections : goal.table-requires-clause-sections
table-requires-clause-sections g c = λ κs bound.
    let files = files_of c.args.tables.now in
    sections_known files (all_lists files) (list_views c.args.records.items) c.requires.records c.requires.within

pub table-requires-clause-few : goal.table-requires-clause-few
table-requires-clause-few g c = λ κs bound.
    let files = files_of c.args.tables.now in
    records_few files (all_lists files) (list_views c.args.records.items) c.requires.records c.requires.within

pub returns : goal.returns
returns g c =
    let files = files_of c.args.tables.now in
    let b = binding_view c.args.binding.now in
    let P : List RecordList → Type 0 = AreListsWithin files in
    both_of c.table.result (λ frames lists of.
    let are = lists ∙ c.requires.records in
    record { lists = are; of = of ∙ ap (all_frames files b) c.requires.records; within = subst P (sym are) c.requires.within })
    c.table.ensures.lists c.table.ensures.of
