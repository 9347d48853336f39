use Rattle.std.proofs.Common.{List, sym, ◌≡◌, ◌<◌, length, subst, arith}
use Rattle.intern_race.specs.Interning.{SeatView, SitsAt}
use Rattle.seat_views.proofs.Joining.{IfOk-both}
use Rattle.tests_passes.proofs.Seated.{seated_from}
use Rattle.tests_passes.proofs.tests.text_table.place_on_threads.Goals as goal

pub over_pieces-requires-clause-accepts : goal.over_pieces-requires-clause-accepts
over_pieces-requires-clause-accepts g c κs within = λ w p x lt at_p at_x.
    let count = c.requires.count in
    let long = c.args.seats.ok.0 in
    let P : SeatView → Type 0 = λ s. SitsAt c.args.interner.now s in
    let here : w < length c.args.seats.items = omega arith in
    (subst P (sym at_x) (c.requires.seated w x here), c.requires.texts)

pub returns : goal.returns
returns g c =
    let count = c.requires.count in
    let long = c.args.seats.ok.0 in
    let seats : List SeatView = c.args.seats.items in
    let given : length c.args.cuts.now ≡ length seats = omega arith in
    IfOk-both c.over_pieces.result _ _ _ (λ done many each. seated_from c.args.interner.now c.args.cuts.now seats done.items given many each) c.over_pieces.ensures.count c.over_pieces.ensures.each
