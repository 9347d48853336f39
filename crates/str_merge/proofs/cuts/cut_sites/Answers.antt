use Rattle.std.proofs.Common.{◌≡◌, ◌∙◌, ℕ, List, Result, ap, sym, subst, arith, length}
use Rattle.std.specs.Global.{Vec}
use Rattle.std.specs.declared.ops.Range.{Range}
use Rattle.lk_base.specs.declared.defects.LinkStop.{LinkStop}
use Rattle.lk_tables.specs.TablesView.{files_of}
use Rattle.work_split.specs.Pieces.{Tiles}
use Rattle.work_split.specs.Shares.{IsShare}
use Rattle.work_split.proofs.Sharing.{joined_share}
use Rattle.work_split.proofs.Tiling.{tiles_within}
use Rattle.str_merge.specs.declared.cuts.Cut.{Cut}
use Rattle.str_merge.specs.Cutting.{IsCutAt, no_defects}
use Rattle.str_merge.specs.Sites.{site_views}
use Rattle.str_merge.proofs.CutLists.{cuts_are, cuts_in, cuts_near}
use Rattle.str_merge.proofs.cuts.cut_sites.Goals as goal

pub over_shares-cuts-requires-clause-accepts : goal.over_shares-cuts-requires-clause-accepts
over_shares-cuts-requires-clause-accepts g c κs within = λ w p lt at.
    let n : ℕ = length c.args.sites.now in
    let all : length c.as_slice.result.now ≡ n = ap length c.as_slice.ensures.value ∙ c.in_ok-weights.ensures in
    let To : ℕ → Type 0 = λ k. Tiles 0 k c.in_ok-pieces.pieces.items in
    let Tile : List (Range ℕ) → Type 0 = λ l. Tiles 0 n l in
    let tiles : Tile c.as_slice-2.result.now = subst Tile (sym c.as_slice-2.ensures.value) (subst To all c.in_ok-pieces.ensures.tiles) in
    let in_row = tiles_within 0 n c.as_slice-2.result.now w p tiles lt at in
    let some = in_row.some in
    let last = in_row.end_in in
    (c.requires.files, (c.requires.short, (omega arith, omega arith)))

pub returns-in-Ok-clause-pieces : goal.returns-in-Ok-clause-pieces
returns-in-Ok-clause-pieces g c =
    let files = files_of c.args.tables.now in
    let sites = site_views c.args.sites.now in
    let n : ℕ = length c.args.sites.now in
    let all : length c.as_slice.result.now ≡ n = ap length c.as_slice.ensures.value ∙ c.in_ok-weights.ensures in
    let To : ℕ → Type 0 = λ k. Tiles 0 k c.in_ok-pieces.pieces.items in
    let Tile : List (Range ℕ) → Type 0 = λ l. Tiles 0 n l in
    let tiles : Tile c.as_slice-2.result.now = subst Tile (sym c.as_slice-2.ensures.value) (subst To all c.in_ok-pieces.ensures.tiles) in
    let Gives : Range ℕ → Result (Vec Cut) LinkStop → Type 0 = λ p s. Range ℕ × IsShare no_defects (IsCutAt files sites) p.start p.end s in
    let share = joined_share no_defects (IsCutAt files sites) Gives 0 n c.as_slice-2.result.now c.over_shares-cuts.result (λ p s given. given.1) tiles c.over_shares-cuts.ensures in
    cuts_are files c.args.sites.now c.over_shares-cuts.result c.in-Ok.cuts c.in-Ok.is share

pub returns-in-Ok-clause-files : goal.returns-in-Ok-clause-files
returns-in-Ok-clause-files g c =
    let files = files_of c.args.tables.now in
    let sites = site_views c.args.sites.now in
    let n : ℕ = length c.args.sites.now in
    let all : length c.as_slice.result.now ≡ n = ap length c.as_slice.ensures.value ∙ c.in_ok-weights.ensures in
    let To : ℕ → Type 0 = λ k. Tiles 0 k c.in_ok-pieces.pieces.items in
    let Tile : List (Range ℕ) → Type 0 = λ l. Tiles 0 n l in
    let tiles : Tile c.as_slice-2.result.now = subst Tile (sym c.as_slice-2.ensures.value) (subst To all c.in_ok-pieces.ensures.tiles) in
    let Gives : Range ℕ → Result (Vec Cut) LinkStop → Type 0 = λ p s. Range ℕ × IsShare no_defects (IsCutAt files sites) p.start p.end s in
    let share = joined_share no_defects (IsCutAt files sites) Gives 0 n c.as_slice-2.result.now c.over_shares-cuts.result (λ p s given. given.1) tiles c.over_shares-cuts.ensures in
    cuts_in files c.args.sites.now c.over_shares-cuts.result c.in-Ok.cuts c.in-Ok.is share

pub returns-in-Ok-clause-near : goal.returns-in-Ok-clause-near
returns-in-Ok-clause-near g c =
    let files = files_of c.args.tables.now in
    let sites = site_views c.args.sites.now in
    let n : ℕ = length c.args.sites.now in
    let all : length c.as_slice.result.now ≡ n = ap length c.as_slice.ensures.value ∙ c.in_ok-weights.ensures in
    let To : ℕ → Type 0 = λ k. Tiles 0 k c.in_ok-pieces.pieces.items in
    let Tile : List (Range ℕ) → Type 0 = λ l. Tiles 0 n l in
    let tiles : Tile c.as_slice-2.result.now = subst Tile (sym c.as_slice-2.ensures.value) (subst To all c.in_ok-pieces.ensures.tiles) in
    let Gives : Range ℕ → Result (Vec Cut) LinkStop → Type 0 = λ p s. Range ℕ × IsShare no_defects (IsCutAt files sites) p.start p.end s in
    let share = joined_share no_defects (IsCutAt files sites) Gives 0 n c.as_slice-2.result.now c.over_shares-cuts.result (λ p s given. given.1) tiles c.over_shares-cuts.ensures in
    cuts_near files c.args.sites.now c.over_shares-cuts.result c.in-Ok.cuts c.in-Ok.is share
