use Rattle.std.proofs.Common.{ℕ, List, length, flat_map, arith}
use Rattle.work_split.proofs.RunsBeside.{joined_beside}
use Rattle.work_split.proofs.Tiling.{tiles_within}
use Rattle.icf_part.specs.Chosen.{views_at}
use Rattle.icf_part.specs.Signatures.{AreRowsFrom, key_at}
use Rattle.icf_part.proofs.PartSteps.{rows_beside, rows_of_all}
use Rattle.icf_part.proofs.keys.all_keys.Goals as goal

pub over_shares-found-requires-clause-accepts : goal.over_shares-found-requires-clause-accepts
over_shares-found-requires-clause-accepts g c = λ κs within w p lt at.
    let own = tiles_within 0 (length c.args.chosen.now) c.args.pieces.now w p c.requires.tiles lt at in
    let some = own.some in
    (c.requires.chosen, (c.requires.bytes, (c.requires.outputs, (omega (arith, some), own.end_in))))

pub returns-in-Ok : goal.returns-in-Ok
returns-in-Ok g c =
    let words = key_at (views_at c.args.items.now c.args.chosen.now) c.args.bytes.now c.args.outputs.now in
    let Is : ℕ → ℕ → List (List (List ℕ)) → Type 0 = λ a b parts. AreRowsFrom words a b (flat_map (λ part. part) parts) in
    rows_of_all words (length c.args.chosen.now) _
    (joined_beside Is (rows_beside words) _ (length c.args.chosen.now) c.args.pieces.now c.over_shares-found.result
    c.in-Ok.parts c.over_shares-found.ensures (λ p s h. h.1) c.requires.tiles c.in-Ok.is)
