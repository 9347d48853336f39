use Rattle.std.proofs.Common.{rules, arith}
use Rattle.rank_claims.proofs.Keeps.{split_keeps, seated-split}
use Rattle.rank_claims.proofs.table.Claims.split.Goals as goal

pub split_seat-other-requires : goal.split_seat-other-requires
split_seat-other-requires c =
    let key = c.self.inside.table.shared.key in
    let wide = c.self.invariant.wide in
    (search rules, omega arith, split_keeps key.words _ key.offers.now _ c.seat.invariant.live)

pub invariant_of-seat : goal.invariant_of-seat
invariant_of-seat c = seated-split c.seat.inside.seat.me _ c.seat.invariant c.split_seat-other.ensures.2
