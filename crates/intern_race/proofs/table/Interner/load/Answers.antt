use Rattle.std.proofs.Common.{rules, arith, ◌≡◌, ap, refl, subst}
use Rattle.intern_race.specs.Interning.{IsLeastOf, SeatView, TableView}
use Rattle.intern_race.specs.Rule.{seen}
use Rattle.intern_race.specs.Slots.{least}
use Rattle.intern_race.proofs.Keeps.{load_keeps}
use Rattle.intern_race.proofs.Seats.{least_seen, seated-after}
use Rattle.intern_race.proofs.table.Interner.load.Goals as goal

pub load-requires : goal.load-requires
load-requires c =
    let key = c.self.inside.table.shared.key in
    let inv = c.self.invariant in
    let counts = inv.given_count in
    let wide = inv.wide in
    let slots : c.self.inside.slots ≡ c.args.self.now.slots = ap (λ (t : TableView). t.slots) c.self.view_is in
    let asked = c.requires.slot in
    (search rules, omega arith, load_keeps key.slots _ _ key.texts.now _ c.args.slot (omega arith) inv.few c.seat.invariant.live)

pub invariant_of-seat : goal.invariant_of-seat
invariant_of-seat c = seated-after c.seat.inside.seat.me _ _ c.seat.invariant c.load.ensures.2.step

pub returns-clause-word : goal.returns-clause-word
returns-clause-word c =
    let Least : SeatView → Type 0 = λ s. IsLeastOf s c.args.slot (least c.load.result) in
    let seat = c.seat.inside.seat in
    subst Least c.seat.view_is (least_seen seat.me.0 (seen seat) c.args.slot c.load.result c.load.ensures.2.finds refl refl)
