use Rattle.std.proofs.Common.{sym, subst}
use Rattle.lk_base.specs.declared.defects.LinkStop.{LinkStop}
use Rattle.lk_base.specs.Firsts.{StopsAt}
use Rattle.link_sections.specs.Views.{binding_in, files_in, laid_in, leaders_in}
use Rattle.lk_tables.specs.FramePlans.{plan_view}
use Rattle.lk_tables.specs.Frames.{lists_of}
use Rattle.link_driver.specs.Values.{value_defects}
use Rattle.link_driver.proofs.FirstValues.{first_left, frames_left}
use Rattle.link_driver.proofs.frames.first_stop.Goals as goal

pub returns-in-Ok : goal.returns-in-Ok
returns-in-Ok g c =
    let v = c.args.view.now in
    let plan = c.args.plan.now in
    frames_left (files_in v) (binding_in v) (laid_in v).merging.merged (leaders_in v) (laid_in v) c.requires.lead (lists_of plan.frames.now) c.requires.lists (plan_view plan) c.requires.plan
    c.args.stop c.in-Ok.ensures c.requires.stop

pub returns-in-Err : goal.returns-in-Err
returns-in-Err g c =
    let v = c.args.view.now in
    let plan = c.args.plan.now in
    let P : LinkStop → Type 0 = λ s. StopsAt s (value_defects (files_in v) (binding_in v) (leaders_in v) (laid_in v) (plan_view plan)) in
    subst P (sym c.earlier_stop.ensures)
    (first_left (files_in v) (binding_in v) (laid_in v).merging.merged (leaders_in v) (laid_in v) c.requires.lead (lists_of plan.frames.now) c.requires.lists (plan_view plan) c.requires.plan
    c.in-Err.found c.args.stop c.in-Err.ensures c.requires.stop)
