use Rattle.std.proofs.Common.{rules, arith}
use Rattle.rank_claims.proofs.Keeps.{join_keeps, seated-joined}
use Rattle.rank_claims.proofs.table.Claims.join.Goals as goal

pub join_seat-requires : goal.join_seat-requires
join_seat-requires c =
    let key = c.self.inside.table.shared.key in
    let wide = c.self.invariant.wide in
    (search rules, search rules, c.other.invariant.slots, omega arith, join_keeps key.words _ _ key.offers.now _ _ c.seat.invariant.live c.other.invariant.live)

pub invariant_of-seat : goal.invariant_of-seat
invariant_of-seat c = seated-joined c.seat.inside.seat.me c.other.inside.seat.me _ c.seat.invariant c.other.invariant c.join_seat.ensures.2
