use Rattle.std.proofs.Common.{ℕ, ◌≡◌, ◌+◌, List, ap, sym, ◌∙◌, arith, length, subst}
use Rattle.std.proofs.lemmas.Bool.{both_ways}
use Rattle.std.proofs.lemmas.Slice.Eq.{bytes_eq-Decides}
use Rattle.intern_race.specs.Hash.{hash_of, tag_of}
use Rattle.intern_race.specs.Interning.{TableView}
use Rattle.intern_race.specs.Texts.{text_at}
use Rattle.intern_race.proofs.Seats.{slot_within}
use Rattle.intern_race.proofs.Sitting.{sits_after}
use Rattle.intern_race.proofs.Walks.{can_fill, going_ends, going_first, going_on, not_all, slot_first, slot_next, visit_number, visit_seen}
use Rattle.intern_race.proofs.table.Interner.place_hashed.Goals as goal

pub overflow_cast-number : goal.overflow_cast-number
overflow_cast-number c =
    let few = c.self.invariant.few in
    let many = ap (λ (t : TableView). length t.texts) c.self.view_is in
    let texts = ap (λ (l : List (List ℕ)). length l) c.requires.texts in
    let number = c.requires.text in
    omega (arith, few, many, texts, number)

pub loop-far-init : goal.loop-far-init
loop-far-init c =
    let t = c.args.self.now in
    let hash = c.requires.hash ∙ ap (λ ts. hash_of (text_at ts c.args.i)) c.requires.texts in record {
      sits = c.requires.seat;
      within = c.home_of-slot.ensures.within;
      apart = λ lt. absurd (omega (arith, lt));
      going = going_first t c.args.i c.home_of-slot.result c.args.seat.now (slot_first t.slots c.args.hash (text_at t.texts c.args.i) c.home_of-slot.result hash c.home_of-slot.ensures.home);
    }

pub visit-holder-requires-clause-slot : goal.visit-holder-requires-clause-slot
visit-holder-requires-clause-slot c =
    let t = c.args.self.now in
    let slots : c.self.inside.slots ≡ t.slots = ap (λ (x : TableView). x.slots) c.self.view_is in
    can_fill t c.args.i c.loop-far.far c.loop-far.slot c.args.seat.now c.loop-far.seat (omega (arith, slots)) c.loop-far.invariant.going

pub is_text-requires-clause-number : goal.is_text-requires-clause-number
is_text-requires-clause-number c =
    let t = c.args.self.now in
    let texts = ap (λ (l : List (List ℕ)). length l) c.requires.texts in
    let number = visit_number t c.args.i c.loop-far.slot c.visit-holder.result c.loop-far.seat c.visit-holder.new.seat c.visit-holder.ensures.visit c.visit-holder.ensures.apart in
    omega (arith, texts, number)

pub is_text-requires-clause-tag : goal.is_text-requires-clause-tag
is_text-requires-clause-tag c = c.tag_of-tag.ensures ∙ ap tag_of c.requires.hash

pub lower-requires-clause-held : goal.lower-requires-clause-held
lower-requires-clause-held c = visit_seen c.args.i c.loop-far.slot c.visit-holder.result c.loop-far.seat c.visit-holder.new.seat c.visit-holder.ensures.visit

pub lower-requires-clause-equal : goal.lower-requires-clause-equal
lower-requires-clause-equal c =
    let texts = c.args.texts.now in
    let d = bytes_eq-Decides (text_at texts c.visit-holder.result) (text_at texts c.args.i) in
    let equal = d.0 (sym c.is_text.ensures ∙ c.if-is_text.true) in
    let Of : List (List ℕ) → Type 0 = λ ts. text_at ts c.visit-holder.result ≡ text_at ts c.args.i in
    subst Of c.requires.texts equal

pub lower-requires-clause-slot : goal.lower-requires-clause-slot
lower-requires-clause-slot c = c.loop-far.invariant.within

pub overflow_cast-result : goal.overflow_cast-result
overflow_cast-result c =
    let slots : c.self.inside.slots ≡ c.args.self.now.slots = ap (λ (x : TableView). x.slots) c.self.view_is in
    let most = c.self.invariant.most in
    let within = c.loop-far.invariant.within in
    omega (arith, slots, most, within)

pub returns-then-is_text-clause-within : goal.returns-then-is_text-clause-within
returns-then-is_text-clause-within c = c.loop-far.invariant.within

pub returns-then-is_text-clause-walk : goal.returns-then-is_text-clause-walk
returns-then-is_text-clause-walk c =
    let t = c.args.self.now in
    let slots : c.self.inside.slots ≡ t.slots = ap (λ (x : TableView). x.slots) c.self.view_is in
    let texts = c.args.texts.now in
    let many = ap (λ (l : List (List ℕ)). length l) c.requires.texts in
    let number = c.requires.text in
    let d = bytes_eq-Decides (text_at texts c.visit-holder.result) (text_at texts c.args.i) in
    let Of : List (List ℕ) → Type 0 = λ ts. text_at ts c.visit-holder.result ≡ text_at ts c.args.i in
    let equal = subst Of c.requires.texts (d.0 (sym c.is_text.ensures ∙ c.if-is_text.true)) in
    let visited = c.visit-holder.ensures.visit in
    let last = c.lower.ensures.step in
    going_ends t c.args.i c.loop-far.far c.loop-far.slot c.visit-holder.result c.args.seat.now c.loop-far.seat c.visit-holder.new.seat c.lower.new.seat visited.0 last.0
    (omega (arith, many, number)) (omega (arith, slots)) c.loop-far.invariant.going c.visit-holder.ensures.apart visited.1 visited.2 equal last.1

pub slot_after-slot-requires : goal.slot_after-slot-requires
slot_after-slot-requires c = c.loop-far.invariant.within

pub loop-far-preserved : goal.loop-far-preserved
loop-far-preserved c =
    let t = c.args.self.now in
    let before = c.loop-far.invariant in
    let visited = c.visit-holder.ensures.visit in
    let texts = c.args.texts.now in
    let some = before.within in
    let d = bytes_eq-Decides (text_at texts c.visit-holder.result) (text_at texts c.args.i) in
    let Of : List (List ℕ) → Type 0 = λ ts. text_at ts c.visit-holder.result ≡ text_at ts c.args.i in
    let next = slot_next t.slots (text_at t.texts c.args.i) c.loop-far.far c.loop-far.slot c.slot_after-slot.result (omega (arith, some)) before.going.at c.slot_after-slot.ensures in record {
      sits = sits_after t c.loop-far.seat c.visit-holder.new.seat visited.0 before.sits visited.2;
      within = slot_within t.slots (text_at t.texts c.args.i) (c.loop-far.far + 1) c.slot_after-slot.result (omega (arith, some)) (sym next);
      apart = λ lt. c.visit-holder.ensures.apart;
      going = going_on t c.args.i c.loop-far.far c.loop-far.slot c.slot_after-slot.result c.visit-holder.result c.args.seat.now c.loop-far.seat c.visit-holder.new.seat visited.0 before.going visited.1 visited.2
          (λ e. both_ways c.is_text.result c.if-is_text.false (c.is_text.ensures ∙ d.1 (subst Of (sym c.requires.texts) e))) next;
    }

pub unreachable-requires : goal.unreachable-requires
unreachable-requires c =
    let t = c.args.self.now in
    let slots : c.self.inside.slots ≡ t.slots = ap (λ (x : TableView). x.slots) c.self.view_is in
    let some = c.self.invariant.count.some in
    let enough = c.self.invariant.count.enough in
    let kept = ap (λ (x : TableView). length x.texts) c.self.view_is in
    let many = ap (λ (l : List (List ℕ)). length l) c.requires.texts in
    let number = c.requires.text in
    let same : c.loop-far.far ≡ t.slots = omega (arith, slots) in
    let going = c.loop-far.invariant.going in
    not_all t c.args.i c.loop-far.far c.loop-far.slot c.args.seat.now c.loop-far.seat same (omega (arith, many, number)) (omega (arith, slots, enough, kept)) (c.loop-far.invariant.apart (omega (arith, same, slots, some))) going
