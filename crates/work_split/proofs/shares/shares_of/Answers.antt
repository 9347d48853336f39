use Rattle.std.proofs.Common.{◌≡◌, length, arith}
use Rattle.work_split.proofs.Sharing.{answers_from}
use Rattle.work_split.proofs.shares.shares_of.Goals as goal

pub returns : goal.returns
returns g c =
    let made = c.in_ok-given.ensures in
    let long = c.in_ok-given.given.ok.0 in
    let count : length c.args.pieces.now ≡ length c.in_ok-given.given.items = omega arith in
    answers_from (goal.F-post g c.args.task.now) c.args.pieces.now c.in_ok-given.given.items c.over_pieces.result count c.over_pieces.ensures.count c.over_pieces.ensures.each
