use Rattle.std.proofs.Common.{ap, ◌∙◌}
use Rattle.lk_tables.specs.BindingView.{binding_view}
use Rattle.lk_tables.specs.FramePlans.{plan_view}
use Rattle.lk_tables.specs.Frames.{lists_of}
use Rattle.lk_tables.specs.TablesView.{files_of}
use Rattle.link_passes.specs.Tables.{link_options}
use Rattle.link_passes.proofs.Handing.{on_each}
use Rattle.link_passes.proofs.Leading.{planned_are}
use Rattle.link_passes.proofs.frames.find_plan.Goals as goal

pub plan-requires-clause-lists : goal.plan-requires-clause-lists
plan-requires-clause-lists g c = λ κs bound. c.requires.frames.lists

pub plan-requires-clause-within : goal.plan-requires-clause-within
plan-requires-clause-within g c = λ κs bound. c.requires.frames.within

pub returns-clause-plan : goal.returns-clause-plan
returns-clause-plan g c =
    on_each c.plan.result (λ plan is.
    planned_are (link_options c.args.options c.args.barred.now) (files_of c.args.tables.now) (binding_view c.args.binding.now) c.args.kept.now c.args.pools.now
    (lists_of c.args.frames.now) c.args.leaders.now (plan_view plan) c.requires.pools c.requires.frames.lists c.requires.leaders is) c.plan.ensures.plan

pub returns-clause-lists : goal.returns-clause-lists
returns-clause-lists g c = on_each c.plan.result (λ plan lent. ap lists_of lent ∙ c.requires.frames.lists) c.plan.ensures.lent
