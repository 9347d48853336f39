use Rattle.std.proofs.Common.{ℕ, List, length, subst, sym, arith}
use Rattle.std.specs.declared.ops.Range.{Range}
use Rattle.lk_tables.specs.FileView.{file_views}
use Rattle.work_split.specs.Pieces.{Tiles}
use Rattle.work_split.proofs.RunsBeside.{joined_beside}
use Rattle.work_split.proofs.Tiling.{tiles_within}
use Rattle.name_numbers.specs.Columns.{AreRuns}
use Rattle.name_numbers.proofs.JoinedRuns.{runs_beside}
use Rattle.name_numbers.proofs.listing.runs_of.Goals as goal

pub over_shares-listed-requires-clause-accepts : goal.over_shares-listed-requires-clause-accepts
over_shares-listed-requires-clause-accepts g c κs within = λ w p lt at.
    let n = length c.args.files.now in
    let Tile : List (Range ℕ) → Type 0 = λ l. Tiles 0 n l in
    let tiles : Tile c.as_slice.result.now = subst Tile (sym c.as_slice.ensures.value) c.in_ok-pieces.ensures.tiles in
    let own = tiles_within 0 n c.as_slice.result.now w p tiles lt at in
    let some = own.some in
    (c.requires.starts, (c.requires.symbols, (omega (arith, some), own.end_in)))

pub returns-in-Ok : goal.returns-in-Ok
returns-in-Ok g c =
    let files = file_views c.args.files.now in
    let n = length c.args.files.now in
    let Tile : List (Range ℕ) → Type 0 = λ l. Tiles 0 n l in
    let tiles : Tile c.as_slice.result.now = subst Tile (sym c.as_slice.ensures.value) c.in_ok-pieces.ensures.tiles in
    joined_beside (AreRuns files) (runs_beside files) _ n c.as_slice.result.now c.over_shares-listed.result c.in-Ok.runs c.over_shares-listed.ensures (λ p s h. h.1) tiles c.in-Ok.is
