-- The place of a section among those of the items, which stand in order of number.
use Rattle.std.proofs.Common.{◌≡◌, ◌≢◌, ℕ, ◌<◌, ◌≤◌, ◌==◌, Bool, true, false, cond, suc, refl, List, [], ◌∷◌, length, get_or, sym, ap, ◌∙◌, Some, None, ⊎_elim, arith}
use Rattle.std.specs.List.{range_with_len}
use Rattle.std.specs.List.Sorted.{IsStrictlyIncreasing}
use Rattle.std.specs.Prelude.{find}
use Rattle.std.proofs.Math.Nat.{eq-or-lt_of_le}
use Rattle.std.proofs.lemmas.Bool.{eq-eqb, eqb-true, ne_eqb}
use Rattle.std.proofs.lemmas.List.FromFn.{length-range_with_len, get_or-range_with_len}
use Rattle.std.proofs.lemmas.List.Kept.{AllPairs-from_increasing}
use Rattle.lk_tables.proofs.Finding.{find_nothing, first_number}
use Rattle.icf_part.specs.Signatures.{place_of}

pub rising : (xs : List ℕ) → IsStrictlyIncreasing xs → (i j : ℕ) → i ≤ j → j < length xs → get_or xs i 0 ≤ get_or xs j 0
rising xs order i j le lt = ⊎_elim
    (λ (same : i ≡ j). omega (arith, ap (λ k. get_or xs k 0) same))
    (λ (less : i < j). omega (arith, AllPairs-from_increasing xs order i j 0 less lt))
    (eq-or-lt_of_le le)

pub placed : (xs : List ℕ) → IsStrictlyIncreasing xs → (a section : ℕ) → a < length xs → get_or xs a 0 ≡ section → place_of xs section ≡ Some a
unfolding place_of
placed xs order a section lt is =
    first_number (λ k. get_or xs k 0 == section) (length xs) a lt
    (λ k less. ne_eqb (get_or xs k 0) section (λ same. omega (arith, AllPairs-from_increasing xs order k a 0 less lt, same, is)))
    (eq-eqb (get_or xs a 0) section is)

pub no_place : (xs : List ℕ) (section : ℕ) → ((k : ℕ) → k < length xs → get_or xs k 0 ≢ section) → place_of xs section ≡ None
unfolding place_of
no_place xs section other =
    let range = range_with_len 0 (length xs) in
    find_nothing (λ k. get_or xs k 0 == section) range 0 (λ k less.
    let inside : k < length xs = omega (arith, less, length-range_with_len 0 (length xs)) in
    let at = get_or-range_with_len 0 (length xs) k 0 inside in
    let same : get_or range k 0 ≡ k = omega arith in
    ap (λ j. get_or xs j 0 == section) same ∙ ne_eqb (get_or xs k 0) section (other k inside))

-- what a place says
pub record IsPlace (xs : List ℕ) (section a : ℕ) : Type 0 where
  pub within : a < length xs
  pub is : get_or xs a 0 ≡ section

record IsFound (p : ℕ → Bool) (xs : List ℕ) (a : ℕ) : Type 0 where
  at : ℕ
  within : at < length xs
  is : get_or xs at 0 ≡ a
  passes : p a ≡ true

cond_found : (p : ℕ → Bool) (x : ℕ) (xs : List ℕ) (a : ℕ) (b : Bool) → p x ≡ b → (find p xs ≡ Some a → IsFound p xs a) → cond b (Some x) (find p xs) ≡ Some a → IsFound p (x ∷ xs) a
cond_found p x xs a true passes later e = let same : x ≡ a = cc in record { at = 0; within = omega arith; is = same; passes = ap p (sym same) ∙ passes }
cond_found p x xs a false fails later e = let rest = later e in record { at = suc rest.at; within = omega (arith, rest.within); is = rest.is; passes = rest.passes }

found_in : (p : ℕ → Bool) (xs : List ℕ) (a : ℕ) → find p xs ≡ Some a → IsFound p xs a
found_in p [] a e = absurd cc
found_in p (x ∷ xs) a e = cond_found p x xs a (p x) refl (found_in p xs a) e

pub place_tells : (xs : List ℕ) (section a : ℕ) → place_of xs section ≡ Some a → IsPlace xs section a
unfolding place_of
place_tells xs section a is =
    let n = length xs in
    let found = found_in (λ k. get_or xs k 0 == section) (range_with_len 0 n) a is in
    let inside : found.at < n = omega (arith, found.within, length-range_with_len 0 n) in
    let at = get_or-range_with_len 0 n found.at 0 inside in
    record { within = omega (arith, found.is, at, inside); is = eqb-true (get_or xs a 0) section found.passes }
