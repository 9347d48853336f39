use Rattle.std.proofs.Common.{◌≡◌, ◌==◌, inr, not, Contains, sym, ◌∙◌, subst}
use Rattle.std.proofs.lemmas.Bool.{eqb-true}
use Rattle.std.proofs.lemmas.List.Elements.{Contains-get_or}
use Rattle.link_sections.specs.Edges.{ends_of}
use Rattle.lk_tables.specs.Reach.{ends_at, IsReached}
use Rattle.sec_gc.specs.Marks.{after_swap, section_at, times, word_of}
use Rattle.sec_gc.proofs.Sitting.{swapped_bit, within_at}
use Rattle.sec_gc.proofs.marks.Marks.mark.Goals as goal

pub set-requires-clause-may : goal.set-requires-clause-may
set-requires-clause-may c =
    let list = ends_at (ends_of c.args.edges.now) c.args.from in
    let section = section_at list c.args.k in
    let on : Contains list section = Contains-get_or list c.args.k 0 c.requires.place in
    let led : Contains (ends_at c.args.seat.now.ends c.args.from) section = subst (λ e. Contains (ends_at e c.args.from) section) (c.requires.edges ∙ sym c.requires.seat.ends) on in
    inr (c.args.from, c.requires.seen, subst (λ l. Contains (ends_at c.args.seat.now.ends c.args.from) (section_at l c.args.k)) (sym c.ends.ensures.value) led)

pub returns-clause-step : goal.returns-clause-step
returns-clause-step c =
    subst (λ l. c.set.new.seat ≡ after_swap c.args.seat.now (section_at l c.args.k) (word_of (not (c.set.result == 0)))) c.ends.ensures.value (swapped_bit c.args.seat.now _ _ c.set.result c.set.ensures.bit c.set.ensures.step)

pub returns-clause-once : goal.returns-clause-once
returns-clause-once c = λ is. subst (λ l. times (section_at l c.args.k) c.args.seat.now.won ≡ 0) c.ends.ensures.value (c.set.ensures.once (eqb-true c.set.result 0 is))

pub returns-clause-within : goal.returns-clause-within
returns-clause-within c =
    subst (λ l. IsReached c.args.self.now.roots c.args.self.now.ends (section_at l c.args.k)) c.ends.ensures.value (within_at c.args.self.now c.args.seat.now _ c.requires.seat c.set.ensures.within)
