use Rattle.std.proofs.Common.{ℕ, ◌<◌, ◌≡◌, length, arith}
use Rattle.work_split.proofs.Tiling.{tiles_within}
use Rattle.name_numbers.proofs.HashLists.{tags_joined}
use Rattle.name_numbers.proofs.hash_lists.tags_of.Goals as goal

pub over_pieces-requires-clause-accepts : goal.over_pieces-requires-clause-accepts
over_pieces-requires-clause-accepts g c κs within = λ w p x lt at_p at_x.
    let wide = c.requires.hashes.count in
    (omega (arith, wide, lt), (λ list at. c.requires.hashes.each w p list lt at_p at))

pub returns-in-Ok : goal.returns-in-Ok
returns-in-Ok g c =
    let count = c.in_ok-nothing.ensures in
    let long = c.in_ok-nothing.nothing.ok.0 in
    tags_joined c.args.texts.now c.args.cuts.now c.in_ok-nothing.nothing.items c.in_ok-shares.shares.items c.join.result c.in-Ok.tags c.requires.tiles (omega arith) c.in_ok-shares.ensures.count c.in_ok-shares.ensures.each
    c.join.ensures c.in-Ok.is
