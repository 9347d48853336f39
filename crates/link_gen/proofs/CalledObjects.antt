-- Of two numbers that follow one another, those below n.
use Rattle.std.proofs.Common.{◌≡◌, ℕ, ◌+◌, ◌-◌, ◌*◌, ◌<◌, ◌≤◌, min, [], ◌∷◌, filter, length, inl, inr, refl, ap, sym, ◌∙◌, arith}
use Rattle.std.proofs.lemmas.Bool.{cases_lt, lt-ltb, le-ltb}
use Rattle.std.proofs.lemmas.List.FromFn.{length-range_with_len}
use Rattle.std.specs.List.{range_with_len}
use Rattle.std.specs.Prelude.{nat_lt}
use Rattle.link_gen.specs.Generated.{called}

both_below : (a b n : ℕ) → a + 1 ≡ b → b < n → filter (λ j. nat_lt j n) (a ∷ b ∷ []) ≡ range_with_len a 2
both_below a b n next lt = rw (lt-ltb a n (omega arith), lt-ltb b n lt) (ap (λ k. a ∷ k ∷ []) (sym next))

one_below : (a b n : ℕ) → a < n → n ≤ b → filter (λ j. nat_lt j n) (a ∷ b ∷ []) ≡ range_with_len a 1
one_below a b n lt le = rw (lt-ltb a n lt, le-ltb b n le) refl

none_below : (a b n : ℕ) → a ≤ b → n ≤ a → filter (λ j. nat_lt j n) (a ∷ b ∷ []) ≡ []
none_below a b n rises le = rw (le-ltb a n le, le-ltb b n (omega arith)) refl

below : (a b n r : ℕ) → a + 1 ≡ b → r ≡ min (n - a) 2 → filter (λ j. nat_lt j n) (a ∷ b ∷ []) ≡ range_with_len a r
below a b n r next is = elim (cases_lt b n) [
  | inl lt ↦ let two : 2 ≡ r = omega arith in both_below a b n next lt ∙ ap (range_with_len a) two
  | inr le ↦ elim (cases_lt a n) [
    | inl lt ↦ let one : 1 ≡ r = omega arith in one_below a b n lt le ∙ ap (range_with_len a) one
    | inr past ↦ let none : 0 ≡ r = omega arith in none_below a b n (omega arith) past ∙ ap (range_with_len a) none
  ]
]

pub called_are : (k n r : ℕ) → r ≡ min (n - (2 * k + 1)) 2 → called k n ≡ range_with_len (2 * k + 1) r
called_are k n r is = below (2 * k + 1) (2 * k + 2) n r (omega arith) is

pub called_length : (k n r : ℕ) → called k n ≡ range_with_len (2 * k + 1) r → r ≡ length (called k n)
called_length k n r are = sym (ap length are ∙ length-range_with_len (2 * k + 1) r)
