use Rattle.std.proofs.Common.{rules, arith, ◌≡◌, ◌+◌, ◌%◌, ℕ, ap, ◌∙◌}
use Rattle.intern_race.specs.Interning.{TableView}
use Rattle.intern_race.proofs.Words.{masked}
use Rattle.intern_race.proofs.table.Interner.slot_after.Goals as goal

pub overflow_add-result : goal.overflow_add-result
overflow_add-result c =
    let most = c.self.invariant.most in
    let slots : c.self.inside.slots ≡ c.args.self.now.slots = ap (λ (t : TableView). t.slots) c.self.view_is in
    let asked = c.requires in
    omega (arith, most, slots, asked)

pub returns : goal.returns
returns c =
    let count = c.self.invariant.count in
    let slots : c.self.inside.slots ≡ c.args.self.now.slots = ap (λ (t : TableView). t.slots) c.self.view_is in
    masked (c.args.slot + 1) c.self.inside.slots count.bits _ count.power (search rules) ∙ ap (λ (k : ℕ). (c.args.slot + 1) % k) slots
