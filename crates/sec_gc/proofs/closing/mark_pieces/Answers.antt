use Rattle.std.proofs.Common.{List, sym, ◌≡◌, ◌<◌, length, subst, arith}
use Rattle.sec_gc.specs.Closing.{AreFound}
use Rattle.sec_gc.specs.Marks.{SeatView, SitsAt}
use Rattle.work_split.proofs.Tiling.{tiles_within}
use Rattle.sec_gc.proofs.Rounds.{done_from}
use Rattle.seat_views.proofs.Joining.{IfOk-both}
use Rattle.sec_gc.proofs.closing.mark_pieces.Goals as goal

pub over_pieces-requires-clause-accepts : goal.over_pieces-requires-clause-accepts
over_pieces-requires-clause-accepts g c κs within = λ w p x lt at_p at_x.
    let count = c.requires.count in
    let long = c.args.seats.ok.0 in
    let Sits : SeatView → Type 0 = λ s. SitsAt c.args.marks.now s in
    let Found : SeatView → Type 0 = λ s. AreFound c.args.marks.now s.seen c.args.on.now in
    let here : w < length c.args.seats.items = omega arith in
    let in_row = tiles_within 0 (length c.args.on.now) c.args.cuts.now w p c.requires.tiles lt at_p in
    (subst Sits (sym at_x) (c.requires.seated w x here), (c.requires.edges, (subst Found (sym at_x) (c.requires.found w x here), in_row.end_in)))

pub returns : goal.returns
returns g c =
    let count = c.requires.count in
    let long = c.args.seats.ok.0 in
    let seats : List SeatView = c.args.seats.items in
    let given : length c.args.cuts.now ≡ length seats = omega arith in
    IfOk-both c.over_pieces.result _ _ _ (λ done many each. done_from c.args.marks.now _ c.args.on.now c.args.cuts.now seats done.items c.requires.edges given many each) c.over_pieces.ensures.count c.over_pieces.ensures.each
