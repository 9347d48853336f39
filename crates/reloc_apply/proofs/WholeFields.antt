-- A value that sets all bits of its place: what the place held before does not matter.
use Rattle.std.proofs.Common.{◌≡◌, ℕ, zero, suc, ◌+◌, ◌-◌, ◌*◌, ◌<◌, ◌≤◌, ◌&&◌, ◌||◌, inl, inr, Bool, true, false, nat_le, List, [], ◌∷◌, length, get_or, slice_index, refl, sym, ap, ◌∙◌, arith, ℤ}
use Rattle.std.specs.Prelude.{if◌then◌else◌}
use Rattle.std.specs.Int.{bit_at, byte_at, bytes_low_first}
use Rattle.std.specs.List.{list_all, list_any, range_with_len}
use Rattle.std.proofs.lemmas.Bool.{and_parts, cases_lt}
use Rattle.lk_base.specs.Arithmetic.{bits_of}
use Rattle.lk_base.specs.Fields.{Run, field_bit}
use Rattle.lk_base.specs.Formats.{Field}
use Rattle.rv_code.specs.Places.{number_of, of_bits, patched, placed_bit}
use Rattle.rv_code.proofs.WholePlaces.{byte_same, of_bits_bit, placed_small}

-- a byte of a number's bytes
bytes_at : (i n x j : ℕ) → j < n → get_or (bytes_low_first i n x) j 0 ≡ byte_at (i + j) x
bytes_at i zero x j lt = absurd (omega (arith, lt))
bytes_at i (suc n) x zero lt = let e : i ≡ i + 0 = omega arith in ap (λ k. byte_at k x) e
bytes_at i (suc n) x (suc j) lt = let e : suc i + j ≡ i + suc j = omega arith in bytes_at (suc i) n x j (omega (arith, lt)) ∙ ap (λ k. byte_at k x) e

patched_at : (field : Field) (v : ℤ) (p : List ℕ) (j : ℕ) → j < length p →
    slice_index (patched field v p) j ≡ byte_at j (of_bits 64 (placed_bit field.rounded field.plain (number_of p) v))
unfolding patched
patched_at field v p j lt =
    let e : 0 + j ≡ j = omega arith in
    bytes_at 0 (length p) (of_bits 64 (placed_bit field.rounded field.plain (number_of p) v)) j lt
    ∙ ap (λ k. byte_at k (of_bits 64 (placed_bit field.rounded field.plain (number_of p) v))) e

-- a run has each bit of so many bytes
abbrev pub names : List Run → ℕ → Bool
names rs k = list_any (λ (r : Run). nat_le r.low k && nat_le k r.high) rs

abbrev pub is_none : List Run → Bool
is_none [] = true
is_none (r ∷ rs) = false

abbrev pub covers : Field → (width : ℕ) → Bool
covers field width = is_none field.rounded && list_all (names field.plain) (range_with_len 0 (8 * width))

none_is : (rs : List Run) → is_none rs ≡ true → rs ≡ []
none_is [] is = refl
none_is (r ∷ rs) is = let no : ⊥ = cc in absurd no

each_named : (rs : List Run) (from n k : ℕ) → list_all (names rs) (range_with_len from n) ≡ true → from ≤ k → k < from + n → names rs k ≡ true
each_named rs from zero k all le lt = absurd (omega (arith, le, lt))
each_named rs from (suc n) k all le lt =
    let both = and_parts (names rs from) (list_all (names rs) (range_with_len (from + 1) n)) all in
    one_of from k both.0 (λ more. each_named rs (from + 1) n k both.1 more (omega (arith, lt))) le
  where
    one_of : (from k : ℕ) → names rs from ≡ true → (from + 1 ≤ k → names rs k ≡ true) → from ≤ k → names rs k ≡ true
    one_of from k first rest le = elim (cases_lt from k) [
      | inl lt ↦ rest (omega (arith, lt))
      | inr ge ↦ let e : from ≡ k = omega (arith, le, ge) in ap (names rs) (sym e) ∙ first
    ]

field_same : (rs : List Run) (value a b k : ℕ) → names rs k ≡ true → field_bit rs a value k ≡ field_bit rs b value k
field_same [] value a b k is = let no : ⊥ = cc in absurd no
field_same (r ∷ rs) value a b k is = by_run (nat_le r.low k && nat_le k r.high) is (λ rest. field_same rs value a b k rest)
  where
    by_run : (d : Bool) → (d || names rs k) ≡ true → (names rs k ≡ true → field_bit rs a value k ≡ field_bit rs b value k) →
        (if d then bit_at value (r.from + (k - r.low)) else field_bit rs a value k) ≡ (if d then bit_at value (r.from + (k - r.low)) else field_bit rs b value k)
    by_run true any rest = refl
    by_run false any rest = rest any

placed_same : (field : Field) (w : ℕ) (v : ℤ) (a b k : ℕ) → covers field w ≡ true → k < 8 * w →
    placed_bit field.rounded field.plain a v k ≡ placed_bit field.rounded field.plain b v k
placed_same field w v a b k is lt =
    let both = and_parts (is_none field.rounded) (list_all (names field.plain) (range_with_len 0 (8 * w))) is in
    let none = none_is field.rounded both.0 in
    ap (λ rs. placed_bit rs field.plain a v k) none
    ∙ field_same field.plain (bits_of v) a b k (each_named field.plain 0 (8 * w) k both.1 (omega arith) (omega (arith, lt)))
    ∙ sym (ap (λ rs. placed_bit rs field.plain b v k) none)

pub patched_same : (field : Field) (w : ℕ) (v : ℤ) (p q : List ℕ) (j : ℕ) → covers field w ≡ true → w ≤ 8 → length p ≡ w → length q ≡ w → j < w →
    slice_index (patched field v p) j ≡ slice_index (patched field v q) j
patched_same field w v p q j is few one two lt =
    let f = placed_bit field.rounded field.plain (number_of p) v in
    let g = placed_bit field.rounded field.plain (number_of q) v in
    patched_at field v p j (omega (arith, one, lt))
    ∙ byte_same j (of_bits 64 f) (of_bits 64 g) (λ i less.
    of_bits_bit 64 f (8 * j + i) (placed_small field.rounded field.plain (number_of p) v) (omega (arith, less, lt, few))
    ∙ placed_same field w v (number_of p) (number_of q) (8 * j + i) is (omega (arith, less, lt))
    ∙ sym (of_bits_bit 64 g (8 * j + i) (placed_small field.rounded field.plain (number_of q) v) (omega (arith, less, lt, few))))
    ∙ sym (patched_at field v q j (omega (arith, two, lt)))
