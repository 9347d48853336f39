use Rattle.lk_base.proofs.Loops.{flat_step}
use Rattle.lk_tables.specs.BindingView.{binding_view}
use Rattle.lk_tables.specs.TablesView.{files_of}
use Rattle.link_sections.specs.PoolViews.{merged_views}
use Rattle.relax.specs.CallSizes.{call_at}
use Rattle.relax.proofs.calls.calls_in.Goals as goal

pub loop-k-preserved : goal.loop-k-preserved
loop-k-preserved c =
    let scene = c.args.scene.now in
    flat_step (call_at (files_of scene.tables.now) (binding_view scene.binding.now) (merged_views scene.pools.now) scene.leaders.now scene.members.now c.args.from c.args.section)
    c.loop-k.k c.loop-k.calls.items c.push_call.new.calls.items c.loop-k.invariant c.in_ok-push_call.ensures
