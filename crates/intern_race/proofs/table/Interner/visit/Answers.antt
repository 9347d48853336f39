use Rattle.std.proofs.Common.{ℕ, sym, subst}
use Rattle.intern_race.proofs.Walks.{Visited, can_fill_after, visited_filling, visited_taken}
use Rattle.intern_race.proofs.table.Interner.visit.Goals as goal

pub try_fill-found-requires-clause-slot : goal.try_fill-found-requires-clause-slot
try_fill-found-requires-clause-slot c = can_fill_after c.args.self.now c.args.seat.now c.load-found.new.seat _ _ c.args.slot c.load-found.ensures.step c.requires.slot

pub returns-then-found-2-clause-visit : goal.returns-then-found-2-clause-visit
returns-then-found-2-clause-visit c =
    visited_filling c.args.i c.args.slot c.load-found.result c.try_fill-found.result c.args.seat.now c.load-found.new.seat c.try_fill-found.new.seat c.if-found-2.true c.load-found.ensures.step c.try_fill-found.ensures.step

pub returns-else-found-2-clause-visit : goal.returns-else-found-2-clause-visit
returns-else-found-2-clause-visit c =
    let Is : ℕ → Type 0 = λ n. Visited c.args.i c.args.slot n c.args.seat.now c.try_fill-found.new.seat in
    subst Is (sym c.holder_of-else-found-2.ensures)
    (visited_taken c.args.i c.args.slot c.load-found.result c.try_fill-found.result c.args.seat.now c.load-found.new.seat c.try_fill-found.new.seat c.if-found-2.false c.load-found.ensures.step c.try_fill-found.ensures.step)
