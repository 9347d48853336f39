use Rattle.std.proofs.Common.{List, Result, Ok, Err, subst}
use Rattle.std.proofs.lemmas.Result.{err_from_is_err_and}
use Rattle.lk_base.specs.declared.defects.LinkStop.{LinkStop}
use Rattle.lk_tables.specs.Binding.{first_phase}
use Rattle.lk_tables.specs.Frames.{AreListsWithin, RecordList}
use Rattle.lk_tables.specs.BindingView.{binding_view}
use Rattle.lk_tables.specs.TablesView.{files_of}
use Rattle.link_driver.specs.declared.writing.Written.{Written}
use Rattle.link_passes.specs.Contents.{names_of}
use Rattle.link_driver.specs.Link.{laid_out, placing_phases}
use Rattle.link_passes.specs.Passes.{leaders_in, plan_in}
use Rattle.link_driver.specs.Phases.{ShortenedCallsReach}
use Rattle.link_passes.specs.Tables.{link_options}
use Rattle.link_driver.specs.Values.{value_defects}
use Rattle.link_driver.proofs.Chain.{goes_next}
use Rattle.link_driver.proofs.Handing.{made_of}
use Rattle.link_driver.proofs.Leading.{planned_laid}
use Rattle.link_driver.proofs.Passing.{goes_so, not_past, past_all, reaches_so}
use Rattle.link_driver.proofs.Whole.{stands_in}
use Rattle.link_driver.proofs.linking.link_kept.Goals as goal

pub write-requires-clause-within : goal.write-requires-clause-within
write-requires-clause-within g c = λ κs bound.
    let P : List RecordList → Type 0 = AreListsWithin (files_of c.args.tables.now) in
    subst P c.requires.frames.lists c.requires.frames.within

pub write-requires-clause-plan : goal.write-requires-clause-plan
write-requires-clause-plan g c = λ κs bound.
    let files = files_of c.args.tables.now in
    let placed = c.in_ok-uppers.ensures.placed in
    planned_laid (link_options c.args.options c.args.barred.now) files (binding_view c.args.binding.now) c.args.kept.now _ _ _ placed.leaders placed.laid placed.plan

pub returns-in_err-written-clause-goes : goal.returns-in_err-written-clause-goes
returns-in_err-written-clause-goes g c =
    let p = err_from_is_err_and c.from_residual-in_err-written.result c.from_residual-in_err-written.ensures.1 in
    let files = files_of c.args.tables.now in
    let b = binding_view c.args.binding.now in
    let w = link_options c.args.options c.args.barred.now in
    let kept = c.args.kept.now in
    let placed = c.in_ok-uppers.ensures.placed in
    let r : Result Written LinkStop = Err c.in_err-written.field-0.0 in
    rw (p.1, p.2) (goes_next r (placing_phases c.args.limits.now w files b kept) (value_defects files b (leaders_in w files b kept) (laid_out w files b kept) (plan_in w files b kept))
    c.in_ok-uppers.ensures.goes (goes_so r w files b kept _ _ _ placed.leaders placed.laid placed.plan c.in_err-written.ensures.goes))

pub returns-clause-goes : goal.returns-clause-goes
returns-clause-goes g c =
    let files = files_of c.args.tables.now in
    let b = binding_view c.args.binding.now in
    let w = link_options c.args.options c.args.barred.now in
    let kept = c.args.kept.now in
    let placed = c.in_ok-uppers.ensures.placed in
    let r : Result Written LinkStop = Ok c.in_ok-written.written in
    goes_next r (placing_phases c.args.limits.now w files b kept) (value_defects files b (leaders_in w files b kept) (laid_out w files b kept) (plan_in w files b kept))
    c.in_ok-uppers.ensures.goes (goes_so r w files b kept _ _ _ placed.leaders placed.laid placed.plan c.in_ok-written.ensures.goes)

pub returns-clause-settled : goal.returns-clause-settled
returns-clause-settled g c = record { listed = c.in_ok-uppers.ensures.listed; uses = c.in_ok-uppers.ensures.placed.uses; sound = c.in_ok-uppers.ensures.placed.sound; made = c.in_ok-written.ensures.made }

pub returns-clause-written : goal.returns-clause-written
returns-clause-written g c =
    let placed = c.in_ok-uppers.ensures.placed in
    made_of (link_options c.args.options c.args.barred.now) (names_of c.args.names.now) (files_of c.args.tables.now) (binding_view c.args.binding.now) c.args.kept.now _ _ _ _
    placed.leaders placed.laid placed.plan c.in_ok-written.ensures.written

pub returns-in_err-uppers-clause-reach : goal.returns-in_err-uppers-clause-reach
returns-in_err-uppers-clause-reach g c =
    let p = err_from_is_err_and c.from_residual.result c.from_residual.ensures.1 in
    let files = files_of c.args.tables.now in
    let b = binding_view c.args.binding.now in
    let w = link_options c.args.options c.args.barred.now in
    rw (p.1, p.2) (not_past c.in_err-uppers.field-0.0 (first_phase (placing_phases c.args.limits.now w files b c.args.kept.now)) (ShortenedCallsReach w files b c.args.kept.now)
    c.in_err-uppers.ensures.goes)

pub returns-in_err-written-clause-reach : goal.returns-in_err-written-clause-reach
returns-in_err-written-clause-reach g c =
    let p = err_from_is_err_and c.from_residual-in_err-written.result c.from_residual-in_err-written.ensures.1 in
    let files = files_of c.args.tables.now in
    let b = binding_view c.args.binding.now in
    let w = link_options c.args.options c.args.barred.now in
    let placed = c.in_ok-uppers.ensures.placed in
    let r : Result Written LinkStop = Err c.in_err-written.field-0.0 in
    rw (p.1, p.2) (past_all r (first_phase (placing_phases c.args.limits.now w files b c.args.kept.now)) (ShortenedCallsReach w files b c.args.kept.now)
    (reaches_so w files b c.args.kept.now _ _ placed.leaders placed.laid placed.reach))

pub returns-clause-reach : goal.returns-clause-reach
returns-clause-reach g c =
    let placed = c.in_ok-uppers.ensures.placed in
    reaches_so (link_options c.args.options c.args.barred.now) (files_of c.args.tables.now) (binding_view c.args.binding.now) c.args.kept.now _ _ placed.leaders placed.laid placed.reach

pub returns-clause-stands : goal.returns-clause-stands
returns-clause-stands g c =
    let placed = c.in_ok-uppers.ensures.placed in
    stands_in (link_options c.args.options c.args.barred.now) (files_of c.args.tables.now) (binding_view c.args.binding.now) c.args.kept.now _ _ _ _ placed.leaders placed.laid placed.plan
    c.in_ok-written.ensures.stands
