use Rattle.std.proofs.Common.{ℕ, ◌≡◌, ◌<◌, ◌≤◌, List, length, ap, ⊎_elim, subst, arith}
use Rattle.std.proofs.lemmas.Bool.{cases_lt}
use Rattle.intern_race.specs.Interning.{HasPlaced, pair}
use Rattle.intern_race.proofs.Sitting.{placed_after, sits_after}
use Rattle.intern_race.proofs.Walks.{walk_places}
use Rattle.tests_passes.proofs.tests.text_table.place_all.Goals as goal

pub loop-i-preserved : goal.loop-i-preserved
loop-i-preserved c =
    let t = c.args.interner.now in
    let old = c.loop-i.seat in
    let new = c.place.new.seat in
    let walk = c.place.ensures.walk in
    record {
      sits = sits_after t old new walk.0 c.loop-i.invariant.sits walk.2;
      placed = λ j lt. ⊎_elim
          (λ (before : j < c.loop-i.i). let has = c.loop-i.invariant.placed j before in (has.0, placed_after old new walk.0 (pair has.0 j) walk.2 has.1))
          (λ (from : c.loop-i.i ≤ j).
          let same : c.loop-i.i ≡ j = omega (arith, lt, from) in
          let Has : ℕ → Type 0 = λ k. HasPlaced new k in
          subst Has same (c.place.result, walk_places t c.loop-i.i c.place.result old new walk))
          (cases_lt j c.loop-i.i);
    }

pub returns-clause-placed : goal.returns-clause-placed
returns-clause-placed c =
    let texts = ap (λ (l : List (List ℕ)). length l) c.requires.texts in
    let own = ap (λ (l : List (List ℕ)). length l) c.loop-i.invariant.sits.texts in
    λ i lt. c.loop-i.invariant.placed i (omega (arith, lt, texts, own))
