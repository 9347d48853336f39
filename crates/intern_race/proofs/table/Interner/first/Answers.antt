use Rattle.std.proofs.Common.{ℕ, sym, subst}
use Rattle.intern_race.specs.Interning.{IsLeastOf}
use Rattle.intern_race.proofs.table.Interner.first.Goals as goal

pub returns-clause-least : goal.returns-clause-least
returns-clause-least c =
    let Least : ℕ → Type 0 = IsLeastOf c.args.seat.now c.args.slot in
    subst Least (sym c.least_of.ensures) c.load.ensures.word

pub returns-clause-step : goal.returns-clause-step
returns-clause-step c = (c.load.result, c.load.ensures.step, c.least_of.ensures)
