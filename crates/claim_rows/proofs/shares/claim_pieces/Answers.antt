use Rattle.std.proofs.Common.{List, sym, ◌≡◌, ◌<◌, length, subst, arith}
use Rattle.rank_claims.specs.Claims.{SeatView, SitsAt}
use Rattle.work_split.proofs.Tiling.{tiles_within}
use Rattle.claim_rows.proofs.Sharing.{done-from}
use Rattle.seat_views.proofs.Joining.{IfOk-both}
use Rattle.claim_rows.proofs.shares.claim_pieces.Goals as goal

pub over_pieces-requires-clause-accepts : goal.over_pieces-requires-clause-accepts
over_pieces-requires-clause-accepts g c κs within = λ w p x lt at_p at_x.
    let count = c.requires.count in
    let long = c.args.seats.ok.0 in
    let P : SeatView → Type 0 = λ s. SitsAt c.args.claims.now s in
    let here : w < length c.args.seats.items = omega arith in
    let in_row = tiles_within 0 (length c.args.offers.now) c.args.cuts.now w p c.requires.tiles lt at_p in
    (subst P (sym at_x) (c.requires.seated w x here), (c.requires.offers, in_row.end_in))

pub returns : goal.returns
returns g c =
    let count = c.requires.count in
    let long = c.args.seats.ok.0 in
    let seats : List SeatView = c.args.seats.items in
    let given : length c.args.cuts.now ≡ length seats = omega arith in
    IfOk-both c.over_pieces.result _ _ _ (λ done many each. done-from c.args.claims.now c.args.offers.now c.args.cuts.now seats done.items given many each) c.over_pieces.ensures.count c.over_pieces.ensures.each
