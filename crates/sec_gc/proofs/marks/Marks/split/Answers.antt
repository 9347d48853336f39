use Rattle.std.proofs.Common.{rules, arith}
use Rattle.link_sections.specs.Edges.{ends_of}
use Rattle.sec_gc.proofs.Keeps.{split_keeps, seated_split}
use Rattle.sec_gc.proofs.marks.Marks.split.Goals as goal

pub split_seat-other-requires : goal.split_seat-other-requires
split_seat-other-requires c =
    let key = c.self.inside.table.shared.key in
    let wide = c.self.invariant.wide in
    (search rules, omega arith, split_keeps key.roots.now (ends_of key.edges.now) _ _ c.seat.invariant.live)

pub invariant_of-seat : goal.invariant_of-seat
invariant_of-seat c = seated_split c.seat.inside.seat.me _ c.seat.invariant c.split_seat-other.ensures.2
