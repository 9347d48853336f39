use Rattle.std.proofs.Common.{rules, arith}
use Rattle.link_sections.specs.Edges.{ends_of}
use Rattle.sec_gc.proofs.Keeps.{join_keeps, seated_joined}
use Rattle.sec_gc.proofs.marks.Marks.join.Goals as goal

pub join_seat-requires : goal.join_seat-requires
join_seat-requires c =
    let key = c.self.inside.table.shared.key in
    let wide = c.self.invariant.wide in
    (search rules, search rules, c.other.invariant.slots, omega arith, join_keeps key.roots.now (ends_of key.edges.now) _ _ _ _ c.seat.invariant.live c.other.invariant.live)

pub invariant_of-seat : goal.invariant_of-seat
invariant_of-seat c = seated_joined c.seat.inside.seat.me c.other.inside.seat.me _ c.seat.invariant c.join_seat.ensures.2
