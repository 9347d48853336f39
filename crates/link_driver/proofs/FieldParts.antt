-- A value that was put into a field reads back, and what an upper and a lower part of one value add up to.
use Rattle.std.proofs.Common.{◌≡◌, ℕ, ◌%◌, ◌≤◌, ◌==◌, not, nat_lt, Bool, true, false, if◌then◌else◌, Some, None, List, [], ◌∷◌, length, refl, sym, ap, ◌∙◌, arith, inl, inr, ℤ, pos, negsuc, ◌+ℤ◌, ◌≤ℤ◌}
use Rattle.std.specs.Prelude.{int_lt, unsigned_abs}
use Rattle.std.specs.Int.{bit_at}
use Rattle.std.proofs.lemmas.Bool.{and_parts, cases_lt, eqb-true, false≢true, lt-ltb}
use Rattle.std.proofs.lemmas.Int.{ints}
use Rattle.std.proofs.lemmas.Nat.{mod-pow-add}
use Rattle.byteorder.specs.Endian.{little_bytes, little_number}
use Rattle.byteorder.specs.Numbers.{length-bytes_low_first}
use Rattle.lk_base.specs.Arithmetic.{bits_of}
use Rattle.lk_base.specs.Formats.{Field, i_format, plain, s_format, second_i_format, u_format, upper, upper_and_lower}
use Rattle.lk_base.specs.Reaches.{IsWithin, Reach, Takes, any, even_from_to, from_to, is_within, misfit_of, range_of}
use Rattle.lk_base.specs.RelocKinds.{far, kind_of}
use Rattle.lk_base.specs.declared.abi.TheConstants.{R_RISCV_CALL}
use Rattle.lk_base.specs.declared.defects.Misfit.TheVariants.{Odd}
use Rattle.rv_code.specs.Places.{HoldsValue, ReadsBack, held_in, kept_of, number_of, of_bits, patched, placed_bit}
use Rattle.rv_code.specs.Transfers.{Goes, signed}
use Rattle.rv_code.proofs.Going.{goes}
use Rattle.rv_code.proofs.ReadingBack.{reads_back, sound_kind}
use Rattle.rv_code.proofs.WholePlaces.{bytes_bit, of_bits_bit, placed_small}

-- the bytes of a place with a value in it hold the value
pub patched_holds : (field : Field) (v : ℤ) (old : List ℕ) → length old ≤ 8 → HoldsValue field old v (patched field v old)
unfolding patched
patched_holds field v old short =
    let bit : ℕ → ℕ = placed_bit field.rounded field.plain (number_of old) v in
    let word : ℕ = of_bits 64 bit in
    let len : length (little_bytes (length old) word) ≡ length old = length-bytes_low_first 0 (length old) word in
    record {
      same_length = len;
      bits = λ k lt.
          ap (λ (m : ℕ). bit_at (little_number m (little_bytes (length old) word)) k) len
          ∙ bytes_bit (length old) word k lt
          ∙ of_bits_bit 64 bit k (placed_small field.rounded field.plain (number_of old) v) (omega (arith, short, lt));
    }

-- a value that does not misfit is one that is taken
not_less : (m n : ℕ) → not (nat_lt m n) ≡ true → n ≤ m
not_less m n is = elim (cases_lt m n) [
  | inl lt ↦ absurd (false≢true (sym (ap not (lt-ltb m n lt)) ∙ is))
  | inr le ↦ le
]

at_most : (a b : ℤ) → not (int_lt a b) ≡ true → b ≤ℤ a
at_most (pos m) (pos n) is = let le : n ≤ m = not_less m n is in omega (arith, ints, le)
at_most (pos m) (negsuc n) is = omega (arith, ints)
at_most (negsuc m) (pos n) is = cc
at_most (negsuc m) (negsuc n) is = let le : m ≤ n = not_less n m is in omega (arith, ints, le)

within_if : (low high v : ℤ) → is_within low high v ≡ true → IsWithin low high v
within_if low high v is =
    let both = and_parts (not (int_lt v low)) (not (int_lt high v)) is in
    (at_most v low both.0, at_most high v both.1)

in_range : (b : Bool) → range_of b ≡ None → b ≡ true
in_range true none = refl
in_range false none = cc

pub taken_if : (r : Reach) (v : ℤ) → misfit_of r v ≡ None → Takes r v
taken_if any v none = tt
taken_if (from_to low high) v none = within_if low high v (in_range (is_within low high v) none)
taken_if (even_from_to low high) v none = by (unsigned_abs v % 2 == 0) refl none
  where
    by : (e : Bool) → (unsigned_abs v % 2 == 0) ≡ e → (if e then range_of (is_within low high v) else Some Odd) ≡ None → Takes (even_from_to low high) v
    by true even none = (eqb-true (unsigned_abs v % 2) 0 even, within_if low high v (in_range (is_within low high v) none))
    by false even none = cc

-- the two parts of a call add up to its value, so those of one value do that stand in different words
call_sum : (v : ℤ) → Takes far v → signed 32 (kept_of u_format (bits_of (v +ℤ pos 0x800))) +ℤ signed 12 (kept_of second_i_format (bits_of v)) ≡ v
unfolding kind_of
call_sum v takes =
    let old : List ℕ = 0 ∷ 0 ∷ 0 ∷ 0 ∷ 0 ∷ 0 ∷ 0 ∷ 0 ∷ [] in
    let new : List ℕ = patched upper_and_lower v old in
    let holds : HoldsValue upper_and_lower old v new = patched_holds upper_and_lower v old (omega arith) in
    let back : ReadsBack upper_and_lower old v new = reads_back (kind_of R_RISCV_CALL) v old new (sound_kind R_RISCV_CALL) refl holds in
    let is : Goes R_RISCV_CALL v new = goes R_RISCV_CALL v old new takes back in
    ap (λ (u : ℕ). signed 32 u +ℤ signed 12 (kept_of second_i_format (bits_of v))) (sym back.rounded)
    ∙ ap (λ (l : ℕ). signed 32 (held_in u_format (number_of new)) +ℤ signed 12 l) (sym back.plain)
    ∙ is.call (inl refl)

i_same : (x : ℕ) → kept_of i_format x ≡ kept_of second_i_format x
i_same x = omega arith

s_same : (x : ℕ) → kept_of s_format x ≡ kept_of second_i_format x
s_same x = omega (arith, mod-pow-add x 7 5)

sum_by : (v : ℤ) (u l : ℕ) → Takes far v → u ≡ kept_of u_format (bits_of (v +ℤ pos 0x800)) → l ≡ kept_of second_i_format (bits_of v) → signed 32 u +ℤ signed 12 l ≡ v
sum_by v u l takes upper_is lower_is =
    ap (λ (x : ℕ). signed 32 x +ℤ signed 12 l) upper_is
    ∙ ap (λ (x : ℕ). signed 32 (kept_of u_format (bits_of (v +ℤ pos 0x800))) +ℤ signed 12 x) lower_is
    ∙ call_sum v takes

pub sum_i : (v : ℤ) (up new low other : List ℕ) → Takes far v → ReadsBack upper up v new → ReadsBack (plain i_format) low v other
    → signed 32 (held_in u_format (number_of new)) +ℤ signed 12 (held_in i_format (number_of other)) ≡ v
sum_i v up new low other takes first second =
    sum_by v (held_in u_format (number_of new)) (held_in i_format (number_of other)) takes first.rounded (second.plain ∙ i_same (bits_of v))

pub sum_s : (v : ℤ) (up new low other : List ℕ) → Takes far v → ReadsBack upper up v new → ReadsBack (plain s_format) low v other
    → signed 32 (held_in u_format (number_of new)) +ℤ signed 12 (held_in s_format (number_of other)) ≡ v
sum_s v up new low other takes first second =
    sum_by v (held_in u_format (number_of new)) (held_in s_format (number_of other)) takes first.rounded (second.plain ∙ s_same (bits_of v))
