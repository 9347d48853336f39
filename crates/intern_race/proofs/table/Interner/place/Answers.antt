use Rattle.std.proofs.Common.{ℕ, List, ap, arith, length, refl}
use Rattle.intern_race.specs.Interning.{TableView}
use Rattle.intern_race.proofs.Tags.{no_tags}
use Rattle.intern_race.proofs.table.Interner.place.Goals as goal

pub place_hashed-requires-clause-tags : goal.place_hashed-requires-clause-tags
place_hashed-requires-clause-tags c = no_tags c.args.texts.now _ refl

pub overflow_cast-number : goal.overflow_cast-number
overflow_cast-number c =
    let few = c.self.invariant.few in
    let many = ap (λ (t : TableView). length t.texts) c.self.view_is in
    let texts = ap (λ (l : List (List ℕ)). length l) c.requires.texts in
    let number = c.requires.text in
    omega (arith, few, many, texts, number)
