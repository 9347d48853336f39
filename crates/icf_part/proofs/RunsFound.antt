-- The run of one upper half that begins at a place of a sorted list.
use Rattle.std.proofs.Common.{◌≡◌, ◌≢◌, ℕ, ◌+◌, ◌-◌, ◌/◌, ◌%◌, ◌<◌, ◌≤◌, ◌^◌, List, length, map, get_or, Contains, refl, ap, ◌∙◌, ⊎_elim, arith}
use Rattle.std.specs.List.{range_with_len}
use Rattle.std.proofs.lemmas.Bool.{cases_lt}
use Rattle.std.proofs.lemmas.List.FromFn.{length-map-range_with_len, get_or-map-range_with_len}
use Rattle.icf_part.specs.Classes.{word}
use Rattle.icf_part.specs.Runs.{IsCut, IsRising}
use Rattle.icf_part.proofs.Listed.{has_at, place_of}

pub record IsRun (words : List ℕ) (at end : ℕ) : Type 0 where
  pub more : at < end
  pub within : end ≤ length words
  pub same : (i : ℕ) → at ≤ i → i < end → get_or words i 0 / 2 ^ 32 ≡ get_or words at 0 / 2 ^ 32
  pub next : end < length words → get_or words end 0 / 2 ^ 32 ≢ get_or words at 0 / 2 ^ 32

abbrev pub lower : (words : List ℕ) → ℕ → ℕ
lower words i = get_or words i 0 % 2 ^ 32

module _ (words : List ℕ) (at end : ℕ) (rising : IsRising words) (cut : IsCut words at) (run : IsRun words at end) where
  -- what stands after it has a higher upper half
  after : (j : ℕ) → end ≤ j → j < length words → get_or words at 0 / 2 ^ 32 < get_or words j 0 / 2 ^ 32
  after j le lt =
      let more = run.more in
      let inside : end < length words = omega (arith, le, lt) in
      let first = rising.rises at end (omega arith) inside in
      let later = rising.rises end j le lt in
      let other = run.next inside in
      omega (arith, first, later, other)

  pub run_cut : IsCut words end
  run_cut = record {
    lower = λ i j li lj lt.
        let more = run.more in
        let high = after j lj lt in
        ⊎_elim
        (λ (early : i < at). let low = cut.lower i at early (omega arith) (omega (arith, lj, lt, more)) in omega (arith, low, high))
        (λ (own : at ≤ i). let is = run.same i own li in omega (arith, is, high))
        (cases_lt i at);
  }

  wide : length (map (lower words) (range_with_len at (end - at))) ≡ end - at
  wide = length-map-range_with_len (lower words) at (end - at)

  at_place : (k : ℕ) → k < end - at → get_or (map (lower words) (range_with_len at (end - at))) k 0 ≡ lower words (at + k)
  at_place k lt = get_or-map-range_with_len (lower words) at (end - at) k (at + k) 0 lt refl

  pub run_some : 0 < length (map (lower words) (range_with_len at (end - at)))
  run_some = let more = run.more in omega (arith, wide)

  pub run_only : (x : ℕ) → Contains (map (lower words) (range_with_len at (end - at))) x → (x < 2 ^ 32) × Contains words (word (get_or words at 0 / 2 ^ 32) x)
  run_only x has =
      let found = place_of (map (lower words) (range_with_len at (end - at))) x has in
      let k = found.k in
      let long = wide in
      let lt = found.within in
      let is = found.is in
      let inside : k < end - at = omega (arith, lt, long) in
      let e = at_place k inside in
      let same = run.same (at + k) (omega arith) (omega (arith, inside)) in
      let within = run.within in
      (omega (arith, e, is), has_at words (word (get_or words at 0 / 2 ^ 32) x) (at + k) (omega (arith, inside, within)) (omega (arith, e, is, same)))

  pub run_all : (x : ℕ) → x < 2 ^ 32 → Contains words (word (get_or words at 0 / 2 ^ 32) x) → Contains (map (lower words) (range_with_len at (end - at))) x
  run_all x fits has =
      let found = place_of words (word (get_or words at 0 / 2 ^ 32) x) has in
      let j = found.k in
      let lt = found.within in
      let is = found.is in
      let long = wide in
      let more = run.more in
      let within = run.within in
      let upper : get_or words j 0 / 2 ^ 32 ≡ get_or words at 0 / 2 ^ 32 = omega (arith, is, fits) in
      let rest : get_or words j 0 % 2 ^ 32 ≡ x = omega (arith, is, fits) in
      ⊎_elim
      (λ (early : j < at). let low = cut.lower j at early (omega arith) (omega (arith, more, within)) in absurd (omega (arith, low, upper)))
      (λ (from : at ≤ j). ⊎_elim
      (λ (own : j < end).
      let k : j - at < end - at = omega (arith, own, from) in
      let e : at + (j - at) ≡ j = omega (arith, from) in
      has_at (map (lower words) (range_with_len at (end - at))) x (j - at) (omega (arith, k, long)) (at_place (j - at) k ∙ ap (lower words) e ∙ rest))
      (λ (late : end ≤ j). let high = after j late lt in absurd (omega (arith, high, upper)))
      (cases_lt j end))
      (cases_lt j at)
