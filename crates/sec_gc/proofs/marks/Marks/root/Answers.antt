use Rattle.std.proofs.Common.{inl, Contains, sym, ◌∙◌, subst}
use Rattle.std.proofs.lemmas.Bool.{eqb-true}
use Rattle.std.proofs.lemmas.List.Elements.{Contains-get_or}
use Rattle.sec_gc.specs.Marks.{section_at}
use Rattle.sec_gc.proofs.Sitting.{swapped_bit, within_at}
use Rattle.sec_gc.proofs.marks.Marks.root.Goals as goal

pub set-requires-clause-may : goal.set-requires-clause-may
set-requires-clause-may c =
    let section = section_at c.args.roots.now c.args.k in
    let on : Contains c.args.roots.now section = Contains-get_or c.args.roots.now c.args.k 0 c.requires.place in
    inl (subst (λ l. Contains l section) (c.requires.roots ∙ sym c.requires.seat.roots) on)

pub returns-clause-step : goal.returns-clause-step
returns-clause-step c = swapped_bit c.args.seat.now _ _ c.set.result c.set.ensures.bit c.set.ensures.step

pub returns-clause-once : goal.returns-clause-once
returns-clause-once c = λ is. c.set.ensures.once (eqb-true c.set.result 0 is)

pub returns-clause-within : goal.returns-clause-within
returns-clause-within c = within_at c.args.self.now c.args.seat.now _ c.requires.seat c.set.ensures.within
