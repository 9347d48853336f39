use Rattle.std.proofs.Common.{rules, arith, ◌≡◌, true, sym, subst}
use Rattle.intern_race.specs.Rule.{Seated}
use Rattle.intern_race.proofs.Keeps.{join_keeps, learn_keeps}
use Rattle.intern_race.proofs.Seats.{seated-joined}
use Rattle.intern_race.proofs.table.Interner.join.Goals as goal

pub join_seat-requires : goal.join_seat-requires
join_seat-requires c =
    let key = c.self.inside.table.shared.key in
    let wide = c.self.invariant.wide in
    let some = c.self.invariant.count.some in
    (search rules, search rules, c.other.invariant.slots, omega arith, join_keeps key.slots _ _ key.texts.now _ _ c.seat.invariant.live c.other.invariant.live)

pub load-requires : goal.load-requires
load-requires c =
    let key = c.self.inside.table.shared.key in
    let wide = c.self.invariant.wide in
    let some = c.self.invariant.count.some in
    let Live : Seated → Type 0 = λ m. m.0.live ≡ true in
    (search rules, omega arith, learn_keeps key.slots _ _ key.texts.now _ 0 (subst Live (sym c.join_seat.ensures.2) c.seat.invariant.live))

pub invariant_of-seat : goal.invariant_of-seat
invariant_of-seat c = seated-joined c.seat.inside.seat.me c.other.inside.seat.me _ _ c.seat.invariant c.join_seat.ensures.2 c.load.ensures.2
