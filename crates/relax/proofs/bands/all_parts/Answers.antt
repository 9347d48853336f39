use Rattle.std.proofs.Common.{length, arith}
use Rattle.work_split.proofs.RunsBeside.{joined_beside}
use Rattle.work_split.proofs.Tiling.{tiles_within}
use Rattle.relax.specs.Bands.{AreBands}
use Rattle.relax.specs.CallSizes.{all_calls}
use Rattle.relax.proofs.BandParts.{bands_beside}
use Rattle.relax.proofs.bands.all_parts.Goals as goal

pub over_shares-found-requires-clause-accepts : goal.over_shares-found-requires-clause-accepts
over_shares-found-requires-clause-accepts g c = λ κs within w p lt at.
    let own = tiles_within 0 (length (all_calls c.args.rows.now)) c.args.pieces.now w p c.requires.tiles lt at in
    let some = own.some in
    (c.requires.few, (c.requires.sound, (c.requires.marks, (c.requires.low, (omega (arith, some), own.end_in)))))

pub returns-in-Ok : goal.returns-in-Ok
returns-in-Ok g c =
    let ms = c.args.members.now in
    let rows = c.args.rows.now in
    joined_beside (AreBands ms rows) (bands_beside ms rows) _ (length (all_calls rows)) c.args.pieces.now c.over_shares-found.result c.in-Ok.parts c.over_shares-found.ensures (λ p s h. h.1)
    c.requires.tiles c.in-Ok.is
