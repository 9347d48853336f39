-- A run of bits put into a word of 64 bits, by arithmetic.
use Rattle.std.proofs.Common.{◌≡◌, ℕ, ◌+◌, ◌-◌, ◌*◌, ◌/◌, ◌%◌, ◌^◌, ◌<◌, ◌≤◌, [], ◌∷◌, nat_le, ◌&&◌, arith, inl, inr, sym, ◌∙◌, ap, refl}
use Rattle.std.specs.Prelude.{if◌then◌else◌}
use Rattle.std.specs.Int.{bit_at}
use Rattle.std.proofs.lemmas.Nat.{pow-add, pow_pos, shr-shr, one_shl, mul-add-lt, mod_below, shr_below, shl_whole, shr_split}
use Rattle.std.proofs.lemmas.Nat.Bits.{bit_at_cat_low, bit_at_cat_high}
use Rattle.std.proofs.Math.Nat.{mul_comm, pow-le-pow_right}
use Rattle.std.proofs.lemmas.Bool.{cases_lt}
use Rattle.std.proofs.lemmas.Bool.Decides.{nat_tests}
use Rattle.lk_base.specs.Fields.{run, field_bit}

-- the word, with bits `high` down to `low` from the value
abbrev pub put_of : (high low from value word : ℕ) → ℕ
put_of high low from value word =
    (word / 2 ^ (high + 1) * 2 ^ (high - low + 1) + value / 2 ^ from % 2 ^ (high - low + 1)) * 2 ^ low + word % 2 ^ low

pub cat_below : (a m f c : ℕ) → a < 2 ^ m → f < 2 ^ c → a * 2 ^ c + f < 2 ^ (m + c)
cat_below a m f c p q =
    let h : a * 2 ^ c + f < 2 ^ c * 2 ^ m = mul-add-lt a (2 ^ c) f (2 ^ m) p q in
    let e : 2 ^ (m + c) ≡ 2 ^ c * 2 ^ m = pow-add 2 m c ∙ mul_comm (2 ^ m) (2 ^ c) in
    rw e h

-- what stands above the run, and what is put there
above_below : (high word : ℕ) → word < 2 ^ 64 → high < 64 → word / 2 ^ (high + 1) < 2 ^ (63 - high)
above_below high word below within =
    let e : 63 - high + (high + 1) ≡ 64 = omega arith in
    shr_below word (63 - high) (high + 1) (rw e below)

upper_below : (high low from value word : ℕ) → word < 2 ^ 64 → low ≤ high → high < 64
    → word / 2 ^ (high + 1) * 2 ^ (high - low + 1) + value / 2 ^ from % 2 ^ (high - low + 1) < 2 ^ (64 - low)
upper_below high low from value word below ordered within =
    let e : 63 - high + (high - low + 1) ≡ 64 - low = omega arith in
    let h = cat_below (word / 2 ^ (high + 1)) (63 - high) (value / 2 ^ from % 2 ^ (high - low + 1)) (high - low + 1)
    (above_below high word below within) (mod_below _ _ (pow_pos (high - low + 1))) in
    rw e at h

pub put_below : (high low from value word : ℕ) → word < 2 ^ 64 → low ≤ high → high < 64 → put_of high low from value word < 2 ^ 64
put_below high low from value word below ordered within =
    let e : 64 - low + low ≡ 64 = omega arith in
    let h = cat_below _ (64 - low) (word % 2 ^ low) low (upper_below high low from value word below ordered within) (mod_below _ _ (pow_pos low)) in
    rw e at h

-- the parts of the program's sum
counted : (high low : ℕ) → high - low < 63 → 1 * 2 ^ (high - low + 1) % 2 ^ 64 ≡ 2 ^ (high - low + 1)
counted high low short = one_shl (high - low + 1) 64 (omega arith)

shifted : (high low word : ℕ) → word < 2 ^ 64 → low ≤ high → high < 64
    → word / 2 ^ high / 2 * 2 ^ (high - low + 1) % 2 ^ 64 ≡ word / 2 ^ (high + 1) * 2 ^ (high - low + 1)
shifted high low word below ordered within =
    let whole = shl_whole (word / 2 ^ (high + 1)) (63 - high) (high - low + 1) 64 (above_below high word below within) (omega arith) in
    ap (λ n. n * 2 ^ (high - low + 1) % 2 ^ 64) (shr-shr word high 1) ∙ whole

-- the program's shifts lose nothing
pub upper_is : (high low from value word : ℕ) → word < 2 ^ 64 → low ≤ high → high < 64 → high - low < 63
    → word / 2 ^ high / 2 * 2 ^ (high - low + 1) % 2 ^ 64 + value / 2 ^ from % (1 * 2 ^ (high - low + 1) % 2 ^ 64)
    ≡ word / 2 ^ (high + 1) * 2 ^ (high - low + 1) + value / 2 ^ from % 2 ^ (high - low + 1)
upper_is high low from value word below ordered within short =
    rw (shifted high low word below ordered within, counted high low short) refl

pub upper_fits : (high low from value word : ℕ) → word < 2 ^ 64 → low ≤ high → high < 64
    → word / 2 ^ (high + 1) * 2 ^ (high - low + 1) + value / 2 ^ from % 2 ^ (high - low + 1) < 2 ^ 64
upper_fits high low from value word below ordered within =
    let lt = upper_below high low from value word below ordered within in
    let one : 1 ≤ 2 = omega arith in
    let less : 64 - low ≤ 64 = omega arith in
    let le : 2 ^ (64 - low) ≤ 2 ^ 64 = pow-le-pow_right one less in
    omega (arith, lt, le)

pub put_is : (high low from value word : ℕ) → word < 2 ^ 64 → low ≤ high → high < 64 → high - low < 63
    → (word / 2 ^ high / 2 * 2 ^ (high - low + 1) % 2 ^ 64 + value / 2 ^ from % (1 * 2 ^ (high - low + 1) % 2 ^ 64)) * 2 ^ low % 2 ^ 64
    + word % (1 * 2 ^ low % 2 ^ 64)
    ≡ put_of high low from value word
put_is high low from value word below ordered within short =
    let lowest : 1 * 2 ^ low % 2 ^ 64 ≡ 2 ^ low = one_shl low 64 (omega arith) in
    let whole = shl_whole _ (64 - low) low 64 (upper_below high low from value word below ordered within) (omega arith) in
    rw (upper_is high low from value word below ordered within short, lowest, whole) refl

-- the low bits of a number
pub low_bit : (n c i : ℕ) → i < c → bit_at (n % 2 ^ c) i ≡ bit_at n i
low_bit n c i lt =
    sym (bit_at_cat_low (n / 2 ^ c) c (n % 2 ^ c) i lt) ∙ ap (λ x. bit_at x i) (shr_split n c)

-- the bits of a number from a place on
pub high_bit : (n c i : ℕ) → bit_at (n / 2 ^ c) i ≡ bit_at n (c + i)
high_bit n c i = ap (λ x. x % 2) (shr-shr n c i)

pub inside : (low high k u v : ℕ) → low ≤ k → k ≤ high → (if nat_le low k && nat_le k high then u else v) ≡ u
inside low high k u v p q = grind (arith, nat_tests)

pub under : (low high k u v : ℕ) → k < low → (if nat_le low k && nat_le k high then u else v) ≡ v
under low high k u v p = grind (arith, nat_tests)

pub over : (low high k u v : ℕ) → high < k → (if nat_le low k && nat_le k high then u else v) ≡ v
over low high k u v p = grind (arith, nat_tests)

-- each bit of the new word
pub put_bits : (high low from value word k : ℕ) → low ≤ high
    → bit_at (put_of high low from value word) k ≡ field_bit (run high low from ∷ []) word value k
put_bits high low from value word k ordered =
    let kept : word % 2 ^ low < 2 ^ low = mod_below _ _ (pow_pos low) in
    let field : value / 2 ^ from % 2 ^ (high - low + 1) < 2 ^ (high - low + 1) = mod_below _ _ (pow_pos (high - low + 1)) in
    elim (cases_lt k low) [
      | inl lt ↦
          bit_at_cat_low _ low (word % 2 ^ low) k lt ∙ low_bit word low k lt
          ∙ sym (under low high k (bit_at value (from + (k - low))) (bit_at word k) lt)
      | inr le ↦ elim (cases_lt (k - low) (high - low + 1)) [
        | inl lt ↦
            bit_at_cat_high _ low (word % 2 ^ low) k kept le
            ∙ bit_at_cat_low (word / 2 ^ (high + 1)) (high - low + 1) (value / 2 ^ from % 2 ^ (high - low + 1)) (k - low) lt
            ∙ low_bit (value / 2 ^ from) (high - low + 1) (k - low) lt
            ∙ high_bit value from (k - low)
            ∙ sym (inside low high k (bit_at value (from + (k - low))) (bit_at word k) le (omega arith))
        | inr past ↦
            let e : high + 1 + (k - low - (high - low + 1)) ≡ k = omega arith in
            bit_at_cat_high _ low (word % 2 ^ low) k kept le
            ∙ bit_at_cat_high (word / 2 ^ (high + 1)) (high - low + 1) (value / 2 ^ from % 2 ^ (high - low + 1)) (k - low) field past
            ∙ high_bit word (high + 1) (k - low - (high - low + 1))
            ∙ ap (bit_at word) e
            ∙ sym (over low high k (bit_at value (from + (k - low))) (bit_at word k) (omega arith))
      ]
    ]
