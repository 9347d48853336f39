use Rattle.std.proofs.Common.{◌≡◌, ◌∙◌, ℕ, List, Result, Option, ap, sym, subst, arith, length}
use Rattle.std.proofs.Crossing.{crosses}
use denote.Param.Send.{sendable}
use Rattle.std.specs.Global.{Vec}
use Rattle.std.specs.declared.ops.Range.{Range}
use Rattle.lk_base.specs.declared.defects.LinkStop.{LinkStop}
use Rattle.work_split.specs.Pieces.{Tiles}
use Rattle.work_split.specs.Shares.{IsShare}
use Rattle.work_split.proofs.Sharing.{joined_share}
use Rattle.work_split.proofs.Tiling.{tiles_within}
use Rattle.str_merge.specs.declared.pooling.Pooled.{Pooled}
use Rattle.str_merge.specs.Cutting.{no_defects}
use Rattle.str_merge.specs.Pooling.{IsReady}
use Rattle.str_merge.proofs.ReadySteps.{ready_all}
use Rattle.str_merge.proofs.small_pools.small_pools.Goals as goal

pub over_shares-ready-requires-clause-accepts : goal.over_shares-ready-requires-clause-accepts
over_shares-ready-requires-clause-accepts g c κs within = λ w p lt at.
    let n : ℕ = length c.args.work.now.firsts.now in
    let all : length c.as_slice-2.result.now ≡ n = ap length c.as_slice-2.ensures.value ∙ c.in_ok-weights.ensures in
    let To : ℕ → Type 0 = λ k. Tiles 0 k c.in_ok-shares.shares.items in
    let Tile : List (Range ℕ) → Type 0 = λ l. Tiles 0 n l in
    let tiles : Tile c.as_slice-3.result.now = subst Tile (sym c.as_slice-3.ensures.value) (subst To all c.in_ok-shares.ensures.tiles) in
    let own = tiles_within 0 n c.as_slice-3.result.now w p tiles lt at in
    let some = own.some in
    let last = own.end_in in
    (c.requires.work, (omega (arith, some), (omega (arith, last), search (sendable, crosses) depth 40)))

pub returns-in-Ok : goal.returns-in-Ok
returns-in-Ok g c =
    let w = c.args.work.now in
    let n : ℕ = length w.firsts.now in
    let all : length c.as_slice-2.result.now ≡ n = ap length c.as_slice-2.ensures.value ∙ c.in_ok-weights.ensures in
    let To : ℕ → Type 0 = λ k. Tiles 0 k c.in_ok-shares.shares.items in
    let Tile : List (Range ℕ) → Type 0 = λ l. Tiles 0 n l in
    let tiles : Tile c.as_slice-3.result.now = subst Tile (sym c.as_slice-3.ensures.value) (subst To all c.in_ok-shares.ensures.tiles) in
    let Gives : Range ℕ → Result (Vec (Option Pooled)) LinkStop → Type 0 = λ p s. Range ℕ × IsShare no_defects (IsReady w) p.start p.end s in
    let share = joined_share no_defects (IsReady w) Gives 0 n c.as_slice-3.result.now c.over_shares-ready.result (λ p s given. given.1) tiles c.over_shares-ready.ensures in
    ready_all w c.over_shares-ready.result c.in-Ok.ready c.in-Ok.is share
