use Rattle.std.proofs.Common.{ℕ, List, Option, Result, sym, subst, arith, length}
use Rattle.std.proofs.Crossing.{crosses}
use Rattle.std.specs.Global.{Vec}
use Rattle.std.specs.declared.ops.Range.{Range}
use denote.Param.Send.{sendable}
use Rattle.lk_base.specs.declared.defects.LinkStop.{LinkStop}
use Rattle.work_split.specs.Pieces.{Tiles}
use Rattle.work_split.specs.Shares.{IsShare}
use Rattle.work_split.proofs.Sharing.{joined_share}
use Rattle.work_split.proofs.Tiling.{tiles_within}
use Rattle.lk_real.specs.Reading.{no_defects, IsAny}
use Rattle.lk_real.proofs.ReadSteps.{as_many, of_names}
use Rattle.lk_real.proofs.reading.read_files.Goals as goal

pub over_shares-list-requires-clause-accepts : goal.over_shares-list-requires-clause-accepts
over_shares-list-requires-clause-accepts g c κs bound = λ w p lt at.
    let n : ℕ = length c.args.names.now in
    let Tile : List (Range ℕ) → Type 0 = λ l. Tiles 0 n l in
    let tiles : Tile c.as_slice.result.now = subst Tile (sym c.as_slice.ensures.value) c.in-Ok.ensures.tiles in
    let in_row = tiles_within 0 n c.as_slice.result.now w p tiles lt at in
    let some = in_row.some in
    let last = in_row.end_in in
    (omega arith, (omega arith, search (sendable, crosses) depth 40))

pub returns-in-Ok-list : goal.returns-in-Ok-list
returns-in-Ok-list g c =
    let n : ℕ = length c.args.names.now in
    let Tile : List (Range ℕ) → Type 0 = λ l. Tiles 0 n l in
    let tiles : Tile c.as_slice.result.now = subst Tile (sym c.as_slice.ensures.value) c.in-Ok.ensures.tiles in
    let Gives : Range ℕ → Result (Vec (Option (Vec ℕ))) LinkStop → Type 0 = λ p s. Range ℕ × IsShare no_defects IsAny p.start p.end s in
    let share = joined_share no_defects IsAny Gives 0 n c.as_slice.result.now c.over_shares-list.result (λ p s given. given.1) tiles c.over_shares-list.ensures in
    of_names n c.in-Ok-list.list.items c.all_read.result (as_many n c.over_shares-list.result c.in-Ok-list.list c.in-Ok-list.is share) c.all_read.ensures
