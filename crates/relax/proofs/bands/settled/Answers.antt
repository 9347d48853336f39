use Rattle.std.proofs.Common.{◌≡◌, ℕ, List, length, ap, sym, subst, ◌∙◌, false}
use Rattle.std.specs.List.{All, list_any}
use Rattle.std.proofs.lemmas.Bool.{not-true}
use Rattle.relax.specs.Bands.{AreRaised, IsOpenOf, is_late, raised_from}
use Rattle.relax.proofs.BandSteps.{length_raised, raised_round, safe_after}
use Rattle.relax.proofs.bands.settled.Goals as goal

pub loop-round-init : goal.loop-round-init
loop-round-init c = record { opens = c.requires.opens; raised = λ jumps banded. banded.raised }

pub next_round-requires-clause-opens : goal.next_round-requires-clause-opens
next_round-requires-clause-opens c =
    subst (λ (z : List ℕ). All (IsOpenOf (length z)) c.args.opens.now) (sym c.as_slice-in-loop-round.ensures.value) c.loop-round.invariant.opens

pub returns-then-not-next : goal.returns-then-not-next
returns-then-not-next c = λ jumps banded.
    let z = c.loop-round.sizes.items in
    let os = c.args.opens.now in
    let is = c.loop-round.invariant.raised jumps banded in
    let none : list_any (is_late z) os ≡ false =
    sym (c.in_ok-next.ensures.rises ∙ ap (λ (l : List ℕ). list_any (is_late l) os) c.as_slice-in-loop-round.ensures.value) ∙ not-true c.in_ok-next.next.rises c.if-not-next.true in
    (safe_after jumps banded.are z os c.args.sizes.items banded is none, is.below)

pub loop-round-preserved : goal.loop-round-preserved
loop-round-preserved c =
    let z = c.loop-round.sizes.items in
    let os = c.args.opens.now in
    let e : c.in_ok-next.next.sizes.items ≡ raised_from z os z = c.in_ok-next.ensures.sizes ∙ ap (λ (l : List ℕ). raised_from l os l) c.as_slice-in-loop-round.ensures.value in
    record {
      opens = subst (λ n. All (IsOpenOf n) os) (sym (ap length e ∙ length_raised z os z)) c.loop-round.invariant.opens;
      raised = λ jumps banded. subst (AreRaised jumps) (sym e) (raised_round jumps banded.are z os banded.each (c.loop-round.invariant.raised jumps banded));
    }
