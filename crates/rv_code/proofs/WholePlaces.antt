-- The two lists of a field together, and the bytes of a place as one number.
use Rattle.std.proofs.Common.{append-nil, ◌≡◌, ℕ, zero, suc, ◌+◌, ◌-◌, ◌*◌, ◌/◌, ◌%◌, ◌^◌, ◌<◌, List, [], ◌∷◌, ◌++◌, Bool, true, false, nat_le, ◌&&◌, length, arith, inl, inr, sym, ◌∙◌, ap, refl, ℤ, pos, negsuc, ◌+ℤ◌, take, drop}
use Rattle.std.specs.Prelude.{if◌then◌else◌, unsigned_abs}
use Rattle.std.specs.Int.{bit_at, byte_at}
use Rattle.std.proofs.lemmas.Nat.Bits.{bit_at_cat_low, bit_at_cat_high, bit_at_lowest, bit_at-lt, same_from_bits_below}
use Rattle.std.proofs.Math.Nat.{mod-eq_of_lt, div-one}
use Rattle.std.proofs.lemmas.Bool.{cases_lt}
use Rattle.std.proofs.lemmas.Int.{int_rem_euclid_is, ints}
use Rattle.std.proofs.lemmas.List.{length-append, length-drop, length-take}
use Rattle.byteorder.specs.Endian.{little_number, little_bytes}
use Rattle.byteorder.specs.Numbers.{little_from-bytes, length-bytes_low_first}
use Rattle.byteorder.proofs.Bytes.{pow256}
use Rattle.lk_base.specs.Fields.{Run, field_bit}
use Rattle.lk_base.specs.Formats.{Field}
use Rattle.rv_code.specs.Places.{of_bits, placed_bit, number_of, patched, HoldsValue}
use Rattle.lk_base.specs.Arithmetic.{bits_of}
use Rattle.rv_code.proofs.BitRuns.{cat_below, high_bit, low_bit}

-- the runs of the value first, those of the value + 0x800 over them
pub placed_is : (rounded plain : List Run) (old word word' : ℕ) (v : ℤ) (k : ℕ)
    → bit_at word k ≡ field_bit plain old (bits_of v) k
    → bit_at word' k ≡ field_bit rounded word (bits_of (v +ℤ pos 0x800)) k
    → bit_at word' k ≡ placed_bit rounded plain old v k
placed_is [] plain old word word' v k lower upper = upper ∙ lower
placed_is (r ∷ rs) plain old word word' v k lower upper =
    upper ∙ ap (λ b. if nat_le r.low k && nat_le k r.high then bit_at (bits_of (v +ℤ pos 0x800)) (r.from + (k - r.low)) else b)
    (inner rs)
  where
    inner : (qs : List Run) → field_bit qs word (bits_of (v +ℤ pos 0x800)) k ≡ placed_bit qs plain old v k
    inner [] = lower
    inner (q ∷ qs) =
        ap (λ b. if nat_le q.low k && nat_le k q.high then bit_at (bits_of (v +ℤ pos 0x800)) (q.from + (k - q.low)) else b) (inner qs)

choose_small : (b : Bool) (u v : ℕ) → u < 2 → v < 2 → (if b then u else v) < 2
choose_small true u v p q = p
choose_small false u v p q = q

field_bit_small : (rs : List Run) (old value k : ℕ) → field_bit rs old value k < 2
field_bit_small [] old value k = bit_at-lt old k
field_bit_small (r ∷ rs) old value k =
    choose_small (nat_le r.low k && nat_le k r.high) (bit_at value (r.from + (k - r.low))) (field_bit rs old value k)
    (bit_at-lt value (r.from + (k - r.low))) (field_bit_small rs old value k)

pub placed_small : (rounded plain : List Run) (old : ℕ) (v : ℤ) (k : ℕ) → placed_bit rounded plain old v k < 2
placed_small [] plain old v k = field_bit_small plain old (bits_of v) k
placed_small (r ∷ rs) plain old v k =
    choose_small (nat_le r.low k && nat_le k r.high) (bit_at (bits_of (v +ℤ pos 0x800)) (r.from + (k - r.low)))
    (placed_bit rs plain old v k) (bit_at-lt (bits_of (v +ℤ pos 0x800)) (r.from + (k - r.low)))
    (placed_small rs plain old v k)

-- what `of_bits` gives has its bits
pub of_bits_below : (n : ℕ) (bit : ℕ → ℕ) → ((k : ℕ) → bit k < 2) → of_bits n bit < 2 ^ n
of_bits_below zero bit small = omega arith
of_bits_below (suc n) bit small =
    let top : bit n < 2 ^ 1 = omega (arith, small n) in
    let h = cat_below (bit n) 1 (of_bits n bit) n top (of_bits_below n bit small) in
    let e : 1 + n ≡ suc n = omega arith in
    rw e at h

lowest_is : (b j : ℕ) → b < 2 → j ≡ 0 → bit_at b j ≡ b
lowest_is b j small at = ap (bit_at b) at ∙ bit_at_lowest b ∙ mod-eq_of_lt small

pub of_bits_bit : (n : ℕ) (bit : ℕ → ℕ) (k : ℕ) → ((j : ℕ) → bit j < 2) → k < n → bit_at (of_bits n bit) k ≡ bit k
of_bits_bit zero bit k small lt = absurd (omega arith)
of_bits_bit (suc n) bit k small lt =
    elim (cases_lt k n) [
      | inl lower ↦ bit_at_cat_low (bit n) n (of_bits n bit) k lower ∙ of_bits_bit n bit k small lower
      | inr le ↦
          let e : n ≡ k = omega arith in
          bit_at_cat_high (bit n) n (of_bits n bit) k (of_bits_below n bit small) le
          ∙ lowest_is (bit n) (k - n) (small n) (omega arith)
          ∙ ap bit e
    ]

-- a number with these bits
pub word_is : (word : ℕ) (bit : ℕ → ℕ) → word < 2 ^ 64 → ((k : ℕ) → bit k < 2) → ((k : ℕ) → bit_at word k ≡ bit k)
    → word ≡ of_bits 64 bit
word_is word bit below small bits =
    same_from_bits_below 64 word _ below (of_bits_below 64 bit small)
    (λ k lt. bits k ∙ sym (of_bits_bit 64 bit k small lt))

-- the bytes of a number, read again
pub bytes_bit : (n word k : ℕ) → k < 8 * n → bit_at (little_number n (little_bytes n word)) k ≡ bit_at word k
bytes_bit n word k lt =
    let ends : little_bytes n word ++ [] ≡ little_bytes n word = append-nil (little_bytes n word) in
    let whole : little_number n (little_bytes n word) ≡ word / 256 ^ 0 % 256 ^ n =
    ap (little_number n) (sym ends) ∙ little_from-bytes n 0 word [] in
    let same : word / 256 ^ 0 % 256 ^ n ≡ word % 2 ^ (8 * n) =
    ap (λ (y : ℕ). y % 256 ^ n) (div-one word) ∙ ap (λ (y : ℕ). word % y) (pow256 n) in
    ap (λ (y : ℕ). bit_at y k) (whole ∙ same) ∙ low_bit word (8 * n) k lt

pub patched_is : (field : Field) (v : ℤ) (old : List ℕ) (word : ℕ) → word < 2 ^ 64
    → ((k : ℕ) → bit_at word k ≡ placed_bit field.rounded field.plain (number_of old) v k)
    → little_bytes (length old) word ≡ patched field v old
unfolding patched
patched_is field v old word below bits =
    ap (little_bytes (length old))
    (word_is word (placed_bit field.rounded field.plain (number_of old) v) below
    (placed_small field.rounded field.plain (number_of old) v) bits)

pub holds_value : (field : Field) (v : ℤ) (old new : List ℕ) (word : ℕ) → new ≡ little_bytes (length old) word
    → ((k : ℕ) → bit_at word k ≡ placed_bit field.rounded field.plain (number_of old) v k)
    → HoldsValue field old v new
holds_value field v old new word is bits =
    let len : length new ≡ length old = ap length is ∙ length-bytes_low_first 0 (length old) word in
    record {
      same_length = len;
      bits = λ k lt.
          ap (λ (n : ℕ). bit_at (little_number n new) k) len
          ∙ ap (λ (xs : List ℕ). bit_at (little_number (length old) xs) k) is
          ∙ bytes_bit (length old) word k lt
          ∙ bits k;
    }

-- the bits of the value + 0x800
pub rounded_bits : (v : ℤ) → (bits_of v + 0x800) % 2 ^ 64 ≡ bits_of (v +ℤ pos 0x800)
unfolding bits_of
rounded_bits (pos n) = omega arith
rounded_bits (negsuc n) =
    let N : ℕ = 2 ^ 64 in
    let m : ℕ = 2 ^ 64 - 1 - n % 2 ^ 64 + 0x800 in
    let up : (negsuc n +ℤ pos 0x800) +ℤ pos ((n / 2 ^ 64 + 1) * 2 ^ 64) ≡ pos m = omega (arith, ints) in
    sym (ap unsigned_abs (int_rem_euclid_is (negsuc n +ℤ pos 0x800) (pos (2 ^ 64)) (2 ^ 64) (n / 2 ^ 64 + 1) m (omega arith) refl up))

-- both clauses of a patch, from what the steps give
pub patched_by : (field field' : Field) (v : ℤ) (old : List ℕ) (start word : ℕ) → word < 2 ^ 64 → field ≡ field'
    → start ≡ number_of old
    → ((k : ℕ) → bit_at word k ≡ placed_bit field.rounded field.plain start v k)
    → little_bytes (length old) word ≡ patched field' v old
patched_by field field' v old start word below same read bits =
    patched_is field v old word below
    (λ k. bits k ∙ ap (λ (n : ℕ). placed_bit field.rounded field.plain n v k) read)
    ∙ ap (λ (f : Field). patched f v old) same

pub held_by : (field field' : Field) (v : ℤ) (old new : List ℕ) (start word : ℕ) → field ≡ field'
    → start ≡ number_of old → new ≡ little_bytes (length old) word
    → ((k : ℕ) → bit_at word k ≡ placed_bit field.rounded field.plain start v k)
    → HoldsValue field' old v new
held_by field field' v old new start word same read is bits =
    holds_value field' v old new word is
    (λ k. bits k ∙ ap (λ (n : ℕ). placed_bit field.rounded field.plain n v k) read
    ∙ ap (λ (f : Field). placed_bit f.rounded f.plain (number_of old) v k) same)

-- a byte of a number by its bits
byte_is : (j x : ℕ) → byte_at j x ≡ x / 256 ^ j % 256
byte_is zero x = ap (λ y. y % 256) (sym (div-one x))
byte_is (suc j) x = refl

below : (y b : ℕ) → b ≡ y % 256 → b < 2 ^ 8
below y b is = omega (arith, is)

byte_bit : (j x i : ℕ) → i < 8 → bit_at (byte_at j x) i ≡ bit_at x (8 * j + i)
byte_bit j x i lt =
    ap (λ y. bit_at y i) (byte_is j x ∙ ap (λ d. x / d % 256) (pow256 j))
    ∙ low_bit (x / 2 ^ (8 * j)) 8 i lt ∙ high_bit x (8 * j) i

pub byte_same : (j x y : ℕ) → ((i : ℕ) → i < 8 → bit_at x (8 * j + i) ≡ bit_at y (8 * j + i)) → byte_at j x ≡ byte_at j y
byte_same j x y same =
    same_from_bits_below 8 (byte_at j x) (byte_at j y) (below (x / 256 ^ j) (byte_at j x) (byte_is j x)) (below (y / 256 ^ j) (byte_at j y) (byte_is j y))
    (λ i lt. byte_bit j x i lt ∙ same i lt ∙ sym (byte_bit j y i lt))

-- a place keeps its length, and so do the bytes around it
pub patched_length : (field : Field) (v : ℤ) (place : List ℕ) → length (patched field v place) ≡ length place
unfolding patched
patched_length field v place = length-bytes_low_first 0 (length place) _

pub laid_length : (at w : ℕ) (new bytes : List ℕ) → length new ≡ length (take w (drop at bytes)) → length (take at bytes ++ (new ++ drop (at + w) bytes)) ≡ length bytes
laid_length at w new bytes is =
    length-append (take at bytes) (new ++ drop (at + w) bytes)
    ∙ omega (arith, length-take at bytes, length-append new (drop (at + w) bytes), length-drop (at + w) bytes, length-take w (drop at bytes), length-drop at bytes, is)
