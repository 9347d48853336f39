use Rattle.std.proofs.Common.{ℕ, List, sym, subst, length}
use Rattle.std.specs.declared.ops.Range.{Range}
use Rattle.work_split.specs.Pieces.{Tiles}
use Rattle.claim_rows.proofs.Sharing.{claimed-each}
use Rattle.claim_rows.proofs.shares.claim_each.Goals as goal

pub returns-clause-claimed : goal.returns-clause-claimed
returns-clause-claimed g c =
    let offers = c.args.offers.now in
    let Tile : List (Range ℕ) → Type 0 = Tiles 0 (length offers) in
    let tiles : Tile c.as_slice.result.now = subst Tile (sym c.as_slice.ensures.value) c.in_ok-cuts.ensures.tiles in
    claimed-each c.args.claims.now offers c.as_slice.result.now c.in_ok-seats-2.seats.items c.join_all.new.seat tiles c.in_ok-seats-2.ensures c.join_all.ensures.kept
