use Rattle.std.proofs.Common.{rules, arith}
use Rattle.intern_race.proofs.Keeps.{split_keeps}
use Rattle.intern_race.proofs.Seats.{seated-split}
use Rattle.intern_race.proofs.table.Interner.split.Goals as goal

pub split_seat-other-requires : goal.split_seat-other-requires
split_seat-other-requires c =
    let key = c.self.inside.table.shared.key in
    let wide = c.self.invariant.wide in
    let some = c.self.invariant.count.some in
    (search rules, omega arith, split_keeps key.slots _ key.texts.now _ c.seat.invariant.live)

pub invariant_of-seat : goal.invariant_of-seat
invariant_of-seat c = seated-split c.seat.inside.seat.me _ c.seat.invariant c.split_seat-other.ensures.2
