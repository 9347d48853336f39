use Rattle.std.proofs.Common.{rules, arith, ◌≡◌, ℕ, List, length, ap, sym, ◌∙◌, subst, Contains}
use Rattle.intern_race.specs.declared.rule.OwnStep.TheVariants.{Lowered}
use Rattle.intern_race.specs.Rule.{view_after}
use Rattle.intern_race.specs.Interning.{SeatView, TableView, pair}
use Rattle.intern_race.specs.Slots.{holder, least}
use Rattle.intern_race.specs.Texts.{text_at}
use Rattle.intern_race.proofs.Keeps.{lower_keeps}
use Rattle.intern_race.proofs.Seats.{seated-after, shown_after}
use Rattle.intern_race.proofs.Words.{holder-word_of, least-word_of}
use Rattle.intern_race.proofs.table.Interner.lower.Goals as goal

pub fetch_min-requires : goal.fetch_min-requires
fetch_min-requires c =
    let key = c.self.inside.table.shared.key in
    let inv = c.self.invariant in
    let counts = inv.given_count in
    let wide = inv.wide in
    let few = inv.few in
    let slots : c.self.inside.slots ≡ c.args.self.now.slots = ap (λ (t : TableView). t.slots) c.self.view_is in
    let texts : key.texts.now ≡ c.args.self.now.texts = ap (λ (t : TableView). t.texts) c.self.view_is in
    let many = ap (λ (l : List (List ℕ)). length l) texts in
    let i : ℕ = c.args.i in
    let asked = c.requires.slot in
    let number = c.requires.text in
    let word = c.word_of.ensures in
    let op : ℕ = c.word_of.result in
    let held : holder op ≡ c.args.holder = ap holder word ∙ holder-word_of i c.args.holder (omega arith) in
    let own : least op ≡ i = ap least word ∙ least-word_of i c.args.holder (omega arith) in
    let me = c.seat.inside.seat.me in
    let Has : ℕ → Type 0 = λ n. Contains me.0.seen (pair c.args.slot n) in
    let In : SeatView → Type 0 = λ x. Contains x.seen (pair c.args.slot c.args.holder) in
    let seen : Has c.args.holder = subst In (sym c.seat.view_is) c.requires.held in
    let equal : text_at key.texts.now c.args.holder ≡ text_at key.texts.now i = ap (λ ts. text_at ts c.args.holder) texts ∙ c.requires.equal ∙ ap (λ ts. text_at ts i) (sym texts) in (
      search rules,
      omega arith,
      lower_keeps key.slots _ _ key.texts.now _ c.args.slot op (omega arith) few c.seat.invariant.live (omega arith) (subst Has (sym held) seen)
          (ap (text_at key.texts.now) held ∙ equal ∙ ap (text_at key.texts.now) (sym own)),
    )

pub invariant_of-seat : goal.invariant_of-seat
invariant_of-seat c = seated-after c.seat.inside.seat.me _ _ c.seat.invariant c.fetch_min.ensures.2

pub returns-clause-step : goal.returns-clause-step
returns-clause-step c =
    let few = c.self.invariant.few in
    let texts = ap (λ (t : TableView). length t.texts) c.self.view_is in
    let number = c.requires.text in
    let i : ℕ = c.args.i in
    let own : least c.word_of.result ≡ i = ap least c.word_of.ensures ∙ least-word_of i c.args.holder (omega arith) in
    let me = c.seat.inside.seat.me in (
      c.fetch_min.result,
      shown_after c.seat.inside.seat c.fetch_min.new.seat c.args.seat.now (Lowered c.args.slot i c.fetch_min.result) c.fetch_min.ensures.0
          (c.fetch_min.ensures.2.view ∙ ap (λ n. view_after me.0 (Lowered c.args.slot n c.fetch_min.result)) own) c.seat.view_is,
    )
