-- How often a section stands in what is won.
use Rattle.std.proofs.Common.{◌≡◌, ◌≢◌, ℕ, zero, suc, ◌+◌, ◌≤◌, ◌==◌, true, false, List, [], ◌∷◌, ◌++◌, refl, ap, arith}
use Rattle.std.proofs.lemmas.Bool.{eq-eqb, ne_eqb}
use Rattle.sec_gc.specs.Marks.{times, won_at, word_of}

pub times_append : (f : ℕ) (xs ys : List ℕ) → times f (xs ++ ys) ≡ times f xs + times f ys
times_append f [] ys = omega arith
times_append f (x ∷ xs) ys = let rest = times_append f xs ys in omega (arith, rest)

-- one that found no mark
pub won_here : (section found : ℕ) → found ≤ 1 → found + times section (won_at section found) ≡ 1
won_here section zero low =
    let one : word_of (section == section) ≡ word_of true = ap word_of (eq-eqb section section refl) in
    omega (arith, one)
won_here section (suc n) low = omega (arith, low)

pub won_else : (section found f : ℕ) → f ≢ section → times f (won_at section found) ≡ 0
won_else section zero f other =
    let none : word_of (f == section) ≡ word_of false = ap word_of (ne_eqb f section other) in
    omega (arith, none)
won_else section (suc n) f other = refl
