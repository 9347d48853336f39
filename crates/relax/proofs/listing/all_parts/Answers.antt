use Rattle.std.proofs.Common.{◌≡◌, ◌-◌, ℕ, List, length, flat_map, map, arith}
use Rattle.std.specs.List.{range_with_len}
use Rattle.lk_tables.specs.BindingView.{binding_view}
use Rattle.lk_tables.specs.TablesView.{files_of}
use Rattle.link_sections.specs.PoolViews.{merged_views}
use Rattle.work_split.proofs.RunsBeside.{joined_beside}
use Rattle.work_split.proofs.Tiling.{tiles_within}
use Rattle.relax.specs.declared.calls.Call.{Call}
use Rattle.relax.specs.CallSizes.{calls_of}
use Rattle.work_split.proofs.ListedRuns.{runs_beside}
use Rattle.relax.proofs.listing.all_parts.Goals as goal

pub over_shares-found-requires-clause-accepts : goal.over_shares-found-requires-clause-accepts
over_shares-found-requires-clause-accepts g c = λ κs within w p lt at.
    let own = tiles_within 0 (length c.args.scene.now.members.now) c.args.pieces.now w p c.requires.tiles lt at in
    let some = own.some in
    (omega (arith, some), own.end_in)

pub returns-in-Ok : goal.returns-in-Ok
returns-in-Ok g c =
    let s = c.args.scene.now in
    let give : ℕ → List Call = calls_of (files_of s.tables.now) (binding_view s.binding.now) (merged_views s.pools.now) s.leaders.now s.members.now c.args.on in
    let Is : ℕ → ℕ → List (List (List Call)) → Type 0 = λ a b parts. flat_map (λ part. part) parts ≡ map give (range_with_len a (b - a)) in
    joined_beside Is (runs_beside give) _ (length s.members.now) c.args.pieces.now c.over_shares-found.result
    c.in-Ok.parts c.over_shares-found.ensures (λ p s h. h.1) c.requires.tiles c.in-Ok.is
