use Rattle.std.proofs.Common.{ℕ, ◌<◌, ◌≡◌, length, arith}
use Rattle.seat_views.proofs.Joining.{IfOk-both}
use Rattle.work_split.proofs.Tiling.{tiles_within}
use Rattle.name_numbers.proofs.HashLists.{hashes_from}
use Rattle.name_numbers.proofs.hash_lists.hash_pieces.Goals as goal

pub over_pieces-requires-clause-accepts : goal.over_pieces-requires-clause-accepts
over_pieces-requires-clause-accepts g c κs within = λ w p x lt at_p at_x.
    let in_row = tiles_within 0 (length c.args.texts.now) c.args.cuts.now w p c.requires.tiles lt at_p in
    let some = in_row.some in
    (omega arith, (in_row.end_in, c.requires.few))

pub returns : goal.returns
returns g c =
    let count = c.in_ok-nothing.ensures in
    let long = c.in_ok-nothing.nothing.ok.0 in
    IfOk-both c.over_pieces.result _ _ _ (λ lists many each. hashes_from c.args.texts.now c.args.cuts.now c.in_ok-nothing.nothing.items lists.items (omega arith) many each) c.over_pieces.ensures.count c.over_pieces.ensures.each
