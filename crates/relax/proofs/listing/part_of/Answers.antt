use Rattle.std.proofs.Common.{◌≡◌, ◌++◌, ◌∷◌, [], ℕ, List, ap, ◌∙◌, arith}
use Rattle.lk_tables.specs.BindingView.{binding_view}
use Rattle.lk_tables.specs.TablesView.{files_of}
use Rattle.link_sections.specs.PoolViews.{merged_views}
use Rattle.relax.specs.declared.calls.Call.{Call}
use Rattle.relax.specs.CallSizes.{calls_of}
use Rattle.relax.specs.Scenes.{calls_between}
use Rattle.work_split.proofs.ListedRuns.{first_run, run_more}
use Rattle.relax.proofs.listing.part_of.Goals as goal

pub loop-from-init : goal.loop-from-init
loop-from-init c =
    let s = c.args.scene.now in
    let give : ℕ → List Call = calls_of (files_of s.tables.now) (binding_view s.binding.now) (merged_views s.pools.now) s.leaders.now s.members.now c.args.on in
    (omega arith, c.in_ok-rows.ensures ∙ first_run give c.args.piece.start)

pub loop-from-preserved : goal.loop-from-preserved
loop-from-preserved c =
    let s = c.args.scene.now in
    let low = c.loop-from.invariant.0 in
    let give : ℕ → List Call = calls_of (files_of s.tables.now) (binding_view s.binding.now) (merged_views s.pools.now) s.leaders.now s.members.now c.args.on in (
      omega (arith, low),
      run_more give c.args.piece.start c.loop-from.from c.loop-from.rows c.push.new.self low c.loop-from.invariant.1
          (c.in_ok-push.ensures.ok ∙ ap (λ l. c.loop-from.rows ++ l ∷ []) (c.as_slice.ensures.value ∙ c.in_ok-calls_of.ensures)),
    )

pub returns : goal.returns
returns c =
    let start = c.args.piece.start in
    let e : c.loop-from.from ≡ c.args.piece.end = omega (arith, c.loop-from.invariant.0) in
    c.in_ok-parts.ensures ∙ c.loop-from.invariant.1 ∙ ap (calls_between c.args.scene.now c.args.on start) e
