use Rattle.std.proofs.Common.{sym, ◌<◌, length, subst, arith}
use Rattle.intern_race.specs.Interning.{SeatView, SitsAt}
use Rattle.name_numbers.specs.Placed.{ArePlaced, AreSlots}
use Rattle.work_split.proofs.Tiling.{tiles_within}
use Rattle.name_numbers.proofs.Placing.{numbers_joined}
use Rattle.name_numbers.proofs.racing.number_pieces.Goals as goal

pub over_pieces-requires-clause-accepts : goal.over_pieces-requires-clause-accepts
over_pieces-requires-clause-accepts g c κs within = λ w p x lt at_p at_x.
    let count = c.requires.count in
    let long = c.args.seats.ok.0 in
    let here : w < length c.args.seats.items = omega arith in
    let in_row = tiles_within 0 (length c.args.texts.now) c.args.cuts.now w p c.requires.tiles lt at_p in
    let some = in_row.some in
    let P : SeatView → Type 0 = λ s. SitsAt c.args.table.now s in
    let Q : SeatView → Type 0 = λ s. ArePlaced (length c.args.texts.now) s.placed in
    let R : SeatView → Type 0 = λ s. AreSlots c.args.table.now c.args.cuts.now s.placed c.args.lists.now in
    let wide = c.requires.wide in
    let slots : R x = subst R (sym at_x) (c.requires.lists w x here) in
    (subst P (sym at_x) (c.requires.seated w x here), (subst Q (sym at_x) (c.requires.all w x here), (c.requires.texts, (omega (arith, wide, lt), ((λ list at. slots.each w p list lt at_p at), (omega arith, in_row.end_in))))))

pub returns-in-Ok : goal.returns-in-Ok
returns-in-Ok g c =
    let count = c.requires.count in
    let long = c.args.seats.ok.0 in
    numbers_joined c.args.texts.now c.args.cuts.now c.args.seats.items c.in_ok-shares.shares.items c.join.result c.in-Ok.numbers c.requires.tiles (omega arith) c.in_ok-shares.ensures.count c.in_ok-shares.ensures.each c.join.ensures c.in-Ok.is
