-- A value that sets all bits of its place stands there as a number, whatever the place held.
use Rattle.std.proofs.Common.{◌≡◌, ℕ, zero, suc, ◌+◌, ◌-◌, ◌*◌, ◌<◌, ◌≤◌, List, [], ◌∷◌, length, refl, sym, ap, ◌∙◌, arith, ℤ}
use Rattle.std.specs.Int.{bit_at, byte_at, bytes_low_first}
use Rattle.byteorder.specs.Endian.{little_bytes}
use Rattle.lk_base.specs.Arithmetic.{bits_of}
use Rattle.lk_base.specs.Fields.{run}
use Rattle.lk_base.specs.Formats.{Field, field_of, plain}
use Rattle.lk_base.specs.declared.relocations.Format.TheVariants.{Byte, Word}
use Rattle.rv_code.specs.Places.{number_of, of_bits, patched, placed_bit}
use Rattle.rv_code.proofs.BitRuns.{inside}
use Rattle.rv_code.proofs.WholePlaces.{byte_same, of_bits_bit, placed_small}

bytes_same : (n j x y : ℕ) → ((k : ℕ) → k < 8 * (j + n) → bit_at x k ≡ bit_at y k) → bytes_low_first j n x ≡ bytes_low_first j n y
bytes_same zero j x y same = refl
bytes_same (suc n) j x y same =
    ap (λ b. b ∷ bytes_low_first (suc j) n x) (byte_same j x y (λ i lt. same (8 * j + i) (omega (arith, lt))))
    ∙ ap (λ l. byte_at j y ∷ l) (bytes_same n (suc j) x y (λ k lt. same k (omega (arith, lt))))

-- a field of the low bits of its place, which has no others
run_bit : (high old : ℕ) (v : ℤ) (k : ℕ) → k ≤ high → placed_bit [] (run high 0 0 ∷ []) old v k ≡ bit_at (bits_of v) k
run_bit high old v k le =
    let e : 0 + (k - 0) ≡ k = omega arith in
    inside 0 high k (bit_at (bits_of v) (0 + (k - 0))) (bit_at old k) (omega arith) le ∙ ap (bit_at (bits_of v)) e

whole_is : (high n : ℕ) (v : ℤ) (place : List ℕ) → length place ≡ n → n ≤ 8 → 8 * n ≤ high + 1 → little_bytes n (bits_of v) ≡ patched (plain (run high 0 0 ∷ [])) v place
unfolding patched
whole_is high n v place long few all =
    let bit : ℕ → ℕ = placed_bit [] (run high 0 0 ∷ []) (number_of place) v in
    bytes_same n 0 (bits_of v) (of_bits 64 bit) (λ k lt.
    sym (of_bits_bit 64 bit k (placed_small [] (run high 0 0 ∷ []) (number_of place) v) (omega (arith, lt, few)) ∙ run_bit high (number_of place) v k (omega (arith, lt, all))))
    ∙ ap (λ m. little_bytes m (of_bits 64 bit)) (sym long)

pub whole_word : (field : Field) (v : ℤ) (place : List ℕ) (bits : ℕ) → length place ≡ 4 → field ≡ field_of Word → bits ≡ bits_of v → little_bytes 4 bits ≡ patched field v place
whole_word field v place bits long is bits_are =
    ap (little_bytes 4) bits_are ∙ whole_is 31 4 v place long (omega arith) (omega arith) ∙ ap (λ f. patched f v place) (sym is)

pub whole_byte : (field : Field) (v : ℤ) (place : List ℕ) (bits : ℕ) → length place ≡ 1 → field ≡ field_of Byte → bits ≡ bits_of v → little_bytes 1 bits ≡ patched field v place
whole_byte field v place bits long is bits_are =
    ap (little_bytes 1) bits_are ∙ whole_is 7 1 v place long (omega arith) (omega arith) ∙ ap (λ f. patched f v place) (sym is)
