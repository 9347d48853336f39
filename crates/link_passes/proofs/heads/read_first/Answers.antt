use Rattle.std.proofs.Common.{◌≡◌, ◌∙◌, ℕ, List, Option, Result, ap, sym, subst, arith, length}
use Rattle.std.specs.Global.{Vec}
use Rattle.std.specs.declared.ops.Range.{Range}
use Rattle.lk_base.specs.declared.defects.LinkStop.{LinkStop}
use Rattle.lk_tables.specs.declared.heads.Head.{Head}
use Rattle.work_split.specs.Pieces.{Tiles}
use Rattle.work_split.specs.Shares.{IsShare}
use Rattle.work_split.proofs.Sharing.{joined_share}
use Rattle.work_split.proofs.Tiling.{tiles_within}
use Rattle.link_passes.specs.Contents.{sources_of}
use Rattle.link_passes.specs.Defects.{head_defects_at}
use Rattle.link_passes.specs.Reading.{IsHeadAt}
use Rattle.link_passes.proofs.heads.read_first.Goals as goal

pub over_shares-requires-clause-accepts : goal.over_shares-requires-clause-accepts
over_shares-requires-clause-accepts g c κs within = λ w p lt at.
    let ss = sources_of c.args.sources.now in
    let n : ℕ = c.args.count in
    let all : length c.as_slice.result.now ≡ n = ap length c.as_slice.ensures.value ∙ c.in_ok-weights.ensures in
    let To : ℕ → Type 0 = λ k. Tiles 0 k c.in_ok-cuts.cuts.items in
    let Tile : List (Range ℕ) → Type 0 = λ l. Tiles 0 n l in
    let tiles : Tile c.as_slice-2.result.now = subst Tile (sym c.as_slice-2.ensures.value) (subst To all c.in_ok-cuts.ensures.tiles) in
    let in_row = tiles_within 0 n c.as_slice-2.result.now w p tiles lt at in
    let some = in_row.some in
    let last = in_row.end_in in
    (omega arith, (omega arith, omega arith))

pub returns : goal.returns
returns g c =
    let ss = sources_of c.args.sources.now in
    let n : ℕ = c.args.count in
    let all : length c.as_slice.result.now ≡ n = ap length c.as_slice.ensures.value ∙ c.in_ok-weights.ensures in
    let To : ℕ → Type 0 = λ k. Tiles 0 k c.in_ok-cuts.cuts.items in
    let Tile : List (Range ℕ) → Type 0 = λ l. Tiles 0 n l in
    let tiles : Tile c.as_slice-2.result.now = subst Tile (sym c.as_slice-2.ensures.value) (subst To all c.in_ok-cuts.ensures.tiles) in
    let Gives : Range ℕ → Result (Vec (Option Head)) LinkStop → Type 0 = λ p s. Range ℕ × IsShare (head_defects_at ss) (IsHeadAt ss) p.start p.end s in
    joined_share (head_defects_at ss) (IsHeadAt ss) Gives 0 n c.as_slice-2.result.now c.over_shares.result (λ p s given. given.1) tiles c.over_shares.ensures
