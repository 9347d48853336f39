use Rattle.std.proofs.Common.{rules, ◌≡◌, ◌%◌, ℕ, ap, ◌∙◌}
use Rattle.intern_race.specs.Interning.{TableView}
use Rattle.intern_race.proofs.Words.{masked}
use Rattle.intern_race.proofs.table.Interner.home_of.Goals as goal

pub returns-clause-home : goal.returns-clause-home
returns-clause-home c =
    let count = c.self.invariant.count in
    let slots : c.self.inside.slots ≡ c.args.self.now.slots = ap (λ (t : TableView). t.slots) c.self.view_is in
    masked c.args.hash c.self.inside.slots count.bits _ count.power (search rules) ∙ ap (λ (k : ℕ). c.args.hash % k) slots
