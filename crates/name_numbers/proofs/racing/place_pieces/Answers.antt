use Rattle.std.proofs.Common.{List, sym, ◌≡◌, ◌<◌, length, subst, arith}
use Rattle.intern_race.specs.Interning.{SeatView, SitsAt}
use Rattle.seat_views.proofs.Joining.{IfOk-both}
use Rattle.work_split.proofs.Tiling.{tiles_within}
use Rattle.name_numbers.proofs.Placing.{done_from}
use Rattle.name_numbers.proofs.racing.place_pieces.Goals as goal

pub over_pieces-requires-clause-accepts : goal.over_pieces-requires-clause-accepts
over_pieces-requires-clause-accepts g c κs within = λ w p x lt at_p at_x.
    let count = c.requires.count in
    let long = c.args.seats.ok.0 in
    let P : SeatView → Type 0 = λ s. SitsAt c.args.table.now s in
    let here : w < length c.args.seats.items = omega arith in
    let in_row = tiles_within 0 (length c.args.texts.now) c.args.cuts.now w p c.requires.tiles lt at_p in
    let some = in_row.some in
    let wide = c.requires.hashes.count in
    (subst P (sym at_x) (c.requires.seated w x here), (c.requires.texts, (omega (arith, wide, lt), ((λ list at. c.requires.hashes.each w p list lt at_p at), (c.requires.tags, (omega arith, (in_row.end_in, c.requires.few)))))))

pub returns : goal.returns
returns g c =
    let count = c.requires.count in
    let long = c.args.seats.ok.0 in
    let seats : List SeatView = c.args.seats.items in
    let given : length c.args.cuts.now ≡ length seats = omega arith in
    IfOk-both c.over_pieces.result _ _ _ (λ done many each. done_from c.args.table.now c.args.cuts.now seats done.items given many each) c.over_pieces.ensures.count c.over_pieces.ensures.each
