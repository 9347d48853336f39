use Rattle.std.proofs.Common.{rules, arith, ◌≡◌, ℕ, List, length, ap, sym, ◌∙◌}
use Rattle.intern_race.specs.declared.rule.OwnStep.TheVariants.{Tried}
use Rattle.intern_race.specs.Interning.{SeatView, TableView}
use Rattle.intern_race.specs.Rule.{view_after}
use Rattle.intern_race.specs.Slots.{holder, least}
use Rattle.intern_race.proofs.Keeps.{try_keeps}
use Rattle.intern_race.proofs.Seats.{seated-after, shown_after, way_of}
use Rattle.intern_race.proofs.Words.{holder-word_of, least-word_of}
use Rattle.intern_race.proofs.table.Interner.try_fill.Goals as goal

pub compare_exchange-requires : goal.compare_exchange-requires
compare_exchange-requires c =
    let key = c.self.inside.table.shared.key in
    let inv = c.self.invariant in
    let counts = inv.given_count in
    let wide = inv.wide in
    let few = inv.few in
    let some = inv.count.some in
    let slots : c.self.inside.slots ≡ c.args.self.now.slots = ap (λ (t : TableView). t.slots) c.self.view_is in
    let texts : key.texts.now ≡ c.args.self.now.texts = ap (λ (t : TableView). t.texts) c.self.view_is in
    let many = ap (λ (l : List (List ℕ)). length l) texts in
    let i : ℕ = c.args.i in
    let number = c.requires.text in
    let new : ℕ = c.word_of-word.result in
    let word = c.word_of-word.ensures in
    let held : holder new ≡ i = ap holder word ∙ holder-word_of i i (omega arith) in
    let own : least new ≡ holder new = ap least word ∙ least-word_of i i (omega arith) ∙ sym held in
    let there = c.requires.within in
    let way = way_of c.args.self.now c.args.seat.now c.seat.inside.seat.me.0 key.slots key.texts.now i (holder new) c.args.slot (omega arith) (sym texts) (ap (λ (x : SeatView). x.seen) (sym c.seat.view_is)) held c.requires.slot in
    (search rules, omega arith, try_keeps key.slots _ _ key.texts.now _ c.args.slot new (omega arith) few c.seat.invariant.live own (omega arith) way)

pub invariant_of-seat : goal.invariant_of-seat
invariant_of-seat c = seated-after c.seat.inside.seat.me _ _ c.seat.invariant c.compare_exchange.ensures.2

pub returns-clause-step : goal.returns-clause-step
returns-clause-step c =
    let few = c.self.invariant.few in
    let texts = ap (λ (t : TableView). length t.texts) c.self.view_is in
    let number = c.requires.text in
    let i : ℕ = c.args.i in
    let held : holder c.word_of-word.result ≡ i = ap holder c.word_of-word.ensures ∙ holder-word_of i i (omega arith) in
    let me = c.seat.inside.seat.me in
    shown_after c.seat.inside.seat c.compare_exchange.new.seat c.args.seat.now (Tried c.args.slot i c.compare_exchange.result) c.compare_exchange.ensures.0
    (c.compare_exchange.ensures.2.view ∙ ap (λ n. view_after me.0 (Tried c.args.slot n c.compare_exchange.result)) held) c.seat.view_is
