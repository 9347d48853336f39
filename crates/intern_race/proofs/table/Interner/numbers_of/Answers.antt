use Rattle.std.proofs.Common.{rules, ℕ, ◌≡◌, ◌++◌, ◌∷◌, [], List, ap, sym, ◌∙◌, arith, subst}
use Rattle.intern_race.specs.Texts.{text_at, text_number}
use Rattle.intern_race.proofs.Firsts.{all_after, first_of, numbers_all, numbers_more}
use Rattle.intern_race.proofs.Sitting.{sits_after}
use Rattle.intern_race.proofs.Walks.{walk_places}
use Rattle.intern_race.proofs.table.Interner.numbers_of.Goals as goal

pub first-requires-clause-slot : goal.first-requires-clause-slot
first-requires-clause-slot c = (c.loop-i.i, walk_places c.args.self.now c.loop-i.i c.place-slot.result c.loop-i.seat c.place-slot.new.seat c.place-slot.ensures.walk)

pub loop-i-preserved : goal.loop-i-preserved
loop-i-preserved c =
    let t = c.args.self.now in
    let texts = c.args.texts.now in
    let before = c.loop-i.invariant in
    let walk = c.place-slot.ensures.walk in
    let look = c.first.ensures.step in
    let old = c.loop-i.seat in
    let mid = c.place-slot.new.seat in
    let new = c.first.new.seat in
    let i : ℕ = c.loop-i.i in
    let sits = sits_after t old mid walk.0 before.sits walk.2 in
    let placed = all_after old mid walk.0 walk.2 before.placed in
    let same = c.requires.texts in
    let number = first_of t.texts mid c.place-slot.result c.first.result i sits.texts c.place-slot.ensures.apart placed (walk_places t i c.place-slot.result old mid walk) c.first.ensures.least in
    let Is : List (List ℕ) → Type 0 = λ ts. c.first.result ≡ text_number ts (text_at ts i) in
    let pushed = c.push_reserved.ensures in record {
      sits = sits_after t mid new _ sits look.1;
      placed = all_after mid new _ look.1 placed;
      numbers = pushed.items ∙ ap (λ l. l ++ c.first.result ∷ []) before.numbers ∙ numbers_more texts i c.first.result (omega arith) (subst Is (sym same) number);
      count = omega arith;
      room = search rules;
    }

pub returns : goal.returns
returns c = c.loop-i.invariant.numbers ∙ numbers_all c.args.texts.now c.loop-i.i (omega arith)
