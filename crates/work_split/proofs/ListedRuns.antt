-- Lists over a run of numbers in parts: part after part they are the list over all.
use Rattle.std.proofs.Common.{◌≡◌, ℕ, ◌+◌, ◌-◌, ◌≤◌, List, [], ◌∷◌, ◌++◌, map, flat_map, sym, ap, ◌∙◌, arith}
use Rattle.std.specs.List.{range_with_len}
use Rattle.std.proofs.lemmas.Grind.{flat_map-append}
use Rattle.std.proofs.lemmas.List.{map-append}
use Rattle.lk_base.proofs.Ranges.{range_parts}
use Rattle.work_split.proofs.RunsBeside.{GoesBeside}

module _ {X : Type 0} (give : ℕ → X) where
  pub first_run : (a : ℕ) → [] ≡ map give (range_with_len a (a - a))
  first_run a = let e : a - a ≡ 0 = omega arith in sym (ap (λ k. map give (range_with_len a k)) e)

  both_runs : (a m b : ℕ) → a ≤ m → m ≤ b → map give (range_with_len a (m - a)) ++ map give (range_with_len m (b - m)) ≡ map give (range_with_len a (b - a))
  both_runs a m b low high =
      let n : b - a ≡ (m - a) + (b - m) = omega arith in
      let from : a + (m - a) ≡ m = omega arith in
      sym (ap (λ k. map give (range_with_len a k)) n ∙ ap (map give) (range_parts a (m - a) (b - m))
      ∙ map-append give (range_with_len a (m - a)) (range_with_len (a + (m - a)) (b - m))
      ∙ ap (λ k. map give (range_with_len a (m - a)) ++ map give (range_with_len k (b - m))) from)

  one_run : (n : ℕ) → map give (range_with_len n ((n + 1) - n)) ≡ give n ∷ []
  one_run n = let e : (n + 1) - n ≡ 1 = omega arith in ap (λ k. map give (range_with_len n k)) e

  pub run_more : (a n : ℕ) (old new : List X) → a ≤ n → old ≡ map give (range_with_len a (n - a)) → new ≡ old ++ give n ∷ [] →
      new ≡ map give (range_with_len a ((n + 1) - a))
  run_more a n old new le held push =
      push ∙ ap (λ l. l ++ give n ∷ []) held ∙ ap (λ l. map give (range_with_len a (n - a)) ++ l) (sym (one_run n)) ∙ both_runs a n (n + 1) le (omega arith)

  pub both_parts : (a m b : ℕ) (xs ys : List (List X)) → a ≤ m → m ≤ b → flat_map (λ part. part) xs ≡ map give (range_with_len a (m - a))
      → flat_map (λ part. part) ys ≡ map give (range_with_len m (b - m)) → flat_map (λ part. part) (xs ++ ys) ≡ map give (range_with_len a (b - a))
  both_parts a m b xs ys low high one two =
      flat_map-append (λ part. part) xs ys ∙ ap (λ l. l ++ flat_map (λ part. part) ys) one ∙ ap (λ l. map give (range_with_len a (m - a)) ++ l) two ∙ both_runs a m b low high

  pub runs_beside : GoesBeside {X = List X} (λ a b parts. flat_map (λ part. part) parts ≡ map give (range_with_len a (b - a)))
  runs_beside = record { none = first_run; both = both_parts }
