use Rattle.std.proofs.Common.{ℕ, ◌∙◌, List, [], Option, subst, sym}
use Rattle.link_passes.specs.Tables.{link_options}
use Rattle.link_driver.proofs.FewPieces.{kept_written}
use Rattle.link_driver.proofs.Leading.{planned_laid}
use Rattle.link_sections.specs.GotUses.{HasAllUses}
use Rattle.link_sections.specs.GotView.{entries_of}
use Rattle.link_sections.specs.LaidOut.{layout_view, with_contents}
use Rattle.link_sections.specs.PoolViews.{pools_view}
use Rattle.lk_tables.specs.BindingView.{binding_view}
use Rattle.lk_tables.specs.FramePlans.{plan_view}
use Rattle.lk_tables.specs.Frames.{AreListsWithin, RecordList}
use Rattle.lk_tables.specs.TablesView.{files_of}
use Rattle.tests_image.proofs.tests.links.kept_made.Goals as goal

pub merge-requires-clause-written : goal.merge-requires-clause-written
merge-requires-clause-written g c κs bound = kept_written (files_of c.args.tables.now) (binding_view c.args.binding.now) c.args.kept.now c.requires.stay

pub answers_of-requires-clause-within : goal.answers_of-requires-clause-within
answers_of-requires-clause-within g c = λ κs bound.
    let P : List RecordList → Type 0 = AreListsWithin (files_of c.args.tables.now) in
    subst P c.requires.frames.lists c.requires.frames.within

pub answers_of-requires-clause-uses : goal.answers_of-requires-clause-uses
answers_of-requires-clause-uses g c = λ κs bound.
    let P : List (Option ℕ) → Type 0 = λ l. HasAllUses (files_of c.args.tables.now) l (entries_of c.in_ok-got.got) in
    subst P (c.as_slice-2.ensures.value ∙ sym c.as_slice-4.ensures.value) c.in_ok-got.ensures.law

pub answers_of-requires-clause-plan : goal.answers_of-requires-clause-plan
answers_of-requires-clause-plan g c = λ κs bound.
    let files = files_of c.args.tables.now in
    let laid = with_contents (layout_view c.in-Ok.layout) (pools_view files c.in_ok-pools.pools) (entries_of c.in_ok-got.got) in
    planned_laid (link_options c.args.asked.now.options []) files (binding_view c.args.binding.now) c.args.kept.now c.as_slice-4.result.now laid (plan_view c.in_ok-plan.plan)
    (c.as_slice-4.ensures.value ∙ c.in_ok-leaders.ensures.leaders) c.in-Ok.ensures.laid c.in_ok-plan.ensures.plan
