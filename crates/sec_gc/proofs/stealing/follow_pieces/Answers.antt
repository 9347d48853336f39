use Rattle.std.proofs.Common.{List, sym, ◌≡◌, ◌<◌, length, subst, arith}
use Rattle.sec_gc.specs.declared.stealing.Share.{Share}
use Rattle.sec_gc.specs.Marks.{SitsAt}
use Rattle.work_split.proofs.Tiling.{tiles_within}
use Rattle.sec_gc.proofs.Stolen.{seated_from}
use Rattle.seat_views.proofs.Joining.{IfOk-both}
use Rattle.sec_gc.proofs.stealing.follow_pieces.Goals as goal

pub over_pieces-requires-clause-accepts : goal.over_pieces-requires-clause-accepts
over_pieces-requires-clause-accepts g c κs within = λ w p x lt at_p at_x.
    let count = c.requires.count in
    let long = c.args.shares.ok.0 in
    let Sits : Share → Type 0 = λ s. SitsAt c.args.marks.now s.seat in
    let here : w < length c.args.shares.items = omega arith in
    let in_row = tiles_within 0 (length c.args.sections.now) c.args.cuts.now w p c.requires.tiles lt at_p in
    (subst Sits (sym at_x) (c.requires.seated w x here), (c.requires.edges, in_row.end_in))

pub returns : goal.returns
returns g c =
    let count = c.requires.count in
    let long = c.args.shares.ok.0 in
    let shares : List Share = c.args.shares.items in
    let given : length c.args.cuts.now ≡ length shares = omega arith in
    IfOk-both c.over_pieces.result _ _ _ (λ done many each. seated_from c.args.marks.now c.args.cuts.now shares done.items given many each) c.over_pieces.ensures.count c.over_pieces.ensures.each
