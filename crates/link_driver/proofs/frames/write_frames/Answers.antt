use Rattle.std.proofs.Common.{List, sym, ap, ◌∙◌, subst}
use Rattle.layout.specs.Layout.{frame_sizes}
use Rattle.link_sections.specs.Views.{binding_in, files_in, laid_in, leaders_in}
use Rattle.lk_tables.specs.FramePlans.{plan_view}
use Rattle.lk_tables.specs.Frames.{AreListsWithin, RecordList, all_lists, lists_of}
use Rattle.eh_frame.specs.FrameLaws.{ArePlain, HasUnwindRecords}
use Rattle.eh_frame.specs.Plan.{plan_of}
use Rattle.elf_out.specs.TablesView.{frame_contents}
use Rattle.link_driver.proofs.FirstValues.{relocations_left}
use Rattle.link_driver.proofs.FrameContents.{contents_are, fits_so, planned_none}
use Rattle.link_driver.proofs.frames.write_frames.Goals as goal

pub write-requires-clause-lists : goal.write-requires-clause-lists
write-requires-clause-lists g c = λ κs bound.
    let P : List RecordList → Type 0 = AreListsWithin (files_in c.args.view.now) in
    subst P (sym c.requires.lists) c.requires.within

pub write-requires-clause-plan : goal.write-requires-clause-plan
write-requires-clause-plan g c = λ κs bound.
    let v = c.args.view.now in
    c.requires.plan ∙ ap (λ ls. plan_of (files_in v) (binding_in v) (laid_in v).merging.merged ls (leaders_in v)) (sym c.requires.lists)

pub returns-in-Ok-clause-goes : goal.returns-in-Ok-clause-goes
returns-in-Ok-clause-goes g c =
    let v = c.args.view.now in
    let plan = c.args.plan.now in
    relocations_left (files_in v) (binding_in v) (laid_in v).merging.merged (leaders_in v) (laid_in v) c.requires.lead (lists_of plan.frames.now) c.requires.lists (plan_view plan) c.requires.plan
    c.in-Ok.ensures.goes

pub returns-in-Ok-clause-contents : goal.returns-in-Ok-clause-contents
returns-in-Ok-clause-contents g c =
    let v = c.args.view.now in
    let plan = c.args.plan.now in
    contents_are (files_in v) (binding_in v) (leaders_in v) (laid_in v) (plan_view plan) (lists_of plan.frames.now) c.in-Ok.frames c.requires.lists c.in-Ok.ensures.frame c.in-Ok.ensures.header

pub returns-in-Ok-clause-fit : goal.returns-in-Ok-clause-fit
returns-in-Ok-clause-fit g c =
    let v = c.args.view.now in
    let plan = c.args.plan.now in
    fits_so (frame_sizes plan) v.layout.now.bounds (frame_contents c.in-Ok.frames) c.requires.framed
    (planned_none (files_in v) (binding_in v) (laid_in v).merging.merged (all_lists (files_in v)) (leaders_in v) (plan_view plan) c.requires.plan)
    c.in-Ok.ensures.lengths.0 c.in-Ok.ensures.lengths.1

pub prove_records_stand-requires-clause-lists : goal.prove_records_stand-requires-clause-lists
prove_records_stand-requires-clause-lists g c =
    let P : List RecordList → Type 0 = AreListsWithin (files_in c.args.view.now) in
    subst P (sym c.requires.lists) c.requires.within

pub prove_records_stand-requires-clause-plain : goal.prove_records_stand-requires-clause-plain
prove_records_stand-requires-clause-plain g c = subst ArePlain (sym c.requires.lists) c.requires.plain

pub prove_records_stand-requires-clause-plan : goal.prove_records_stand-requires-clause-plan
prove_records_stand-requires-clause-plan g c =
    let v = c.args.view.now in
    c.requires.plan ∙ ap (λ ls. plan_of (files_in v) (binding_in v) (laid_in v).merging.merged ls (leaders_in v)) (sym c.requires.lists)

pub returns-in-Ok-clause-records : goal.returns-in-Ok-clause-records
returns-in-Ok-clause-records g c =
    let v = c.args.view.now in
    let plan = c.args.plan.now in
    let frames = c.in-Ok.frames in
    let P : List RecordList → Type 0 = λ ls. HasUnwindRecords (files_in v) (binding_in v) (leaders_in v) (laid_in v) ls (plan_view plan) frames.frame.items frames.header.items in
    subst P c.requires.lists c.prove_records_stand.ensures
