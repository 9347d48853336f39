use Rattle.std.proofs.Common.{◌≡◌, flat_map}
use Rattle.std.specs.List.{range_with_len}
use Rattle.lk_tables.specs.BindingView.{binding_view}
use Rattle.lk_tables.specs.TablesView.{files_of}
use Rattle.link_sections.specs.PoolViews.{merged_views}
use Rattle.relax.specs.CallSizes.{call_at}
use Rattle.relax.proofs.calls.calls_in.Given as goal

abbrev pub invariant-loop-k : goal.invariant-loop-k
invariant-loop-k l =
    l.calls.items ≡ flat_map (call_at (files_of l.scene.tables.now) (binding_view l.scene.binding.now) (merged_views l.scene.pools.now) l.scene.leaders.now l.scene.members.now l.from l.section) (range_with_len 0 l.k)
