use Rattle.std.proofs.Common.{◌≡◌, ◌<◌, ◌≤◌, ℕ, Contains, ◌∙◌, subst, ⊎_elim, arith}
use Rattle.std.proofs.lemmas.Bool.{cases_lt}
use Rattle.std.proofs.lemmas.List.{get_or_default}
use Rattle.sec_gc.specs.Marks.{section_at}
use Rattle.sec_gc.proofs.following.mark_roots.Goals as goal

pub loop-k-preserved : goal.loop-k-preserved
loop-k-preserved c =
    let inv = c.loop-k.invariant in
    let k : ℕ = c.loop-k.k in
    let done = c.mark_root.ensures in
    record {
      sits = done.seat;
      rooted = λ i lt. ⊎_elim
          (λ (less : i < k). done.keeps (section_at c.args.roots.now i) (inv.rooted i less))
          (λ (at : k ≤ i). let same : k ≡ i = omega arith in subst (λ j. Contains c.mark_root.new.seat.seen (section_at c.args.roots.now j)) same done.known)
          (cases_lt i k);
    }

pub returns-clause-rooted : goal.returns-clause-rooted
returns-clause-rooted c = λ f has.
    let i : ℕ = has.0 in
    let at = get_or_default c.args.roots.now i 0 f has.1 ∙ has.2 in
    let past = c.loop-k-test.false in
    subst (λ g. Contains c.loop-k.seat.seen g) at (c.loop-k.invariant.rooted i (omega (arith, has.1, past)))
