-- A whole jump, from the bytes of its place.
use Rattle.std.proofs.Common.{append-nil, ◌≡◌, ℕ, ◌+◌, ◌-◌, ◌*◌, ◌/◌, ◌%◌, ◌^◌, ◌<◌, ◌≤◌, Bool, true, ◌&&◌, nat_le, nat_lt, List, [], ◌∷◌, ◌++◌, length, arith, sym, ◌∙◌, ap, refl, ℤ}
use Rattle.std.specs.Int.{bit_at}
use Rattle.std.proofs.lemmas.Bool.{and_parts, leb-true, ltb-true}
use Rattle.std.proofs.Math.Nat.{div-one, mod-eq_of_lt}
use Rattle.byteorder.specs.Endian.{little_number, little_bytes}
use Rattle.byteorder.specs.Numbers.{little_from-bytes, length-bytes_low_first}
use Rattle.lk_base.specs.Formats.{j_format, cj_format}
use Rattle.lk_base.specs.Fields.{Run, field_bit}
use Rattle.rv_code.proofs.BitRuns.{over, under}
use Rattle.rv_code.proofs.ReadingBack.{are_below, one_held}
use Rattle.rv_code.specs.Instructions.{IsJal, IsShortJump}
use Rattle.lk_base.specs.declared.abi.TheConstants.{R_RISCV_JAL, R_RISCV_RVC_JUMP}
use Rattle.lk_base.specs.RelocKinds.{kind_of}
use Rattle.lk_base.specs.Arithmetic.{bits_of}
use Rattle.rv_code.specs.Places.{number_of, held_in, HoldsValue}
use Rattle.rv_code.specs.Transfers.{signed, Goes}

-- a number's bytes are that number
number_back : (n x : ℕ) (place : List ℕ) → x < 256 ^ n → place ≡ little_bytes n x → number_of place ≡ x
number_back n x place lt is =
    let len : length place ≡ n = ap length is ∙ length-bytes_low_first 0 n x in
    let ends : little_bytes n x ++ [] ≡ little_bytes n x = append-nil (little_bytes n x) in
    ap (λ (m : ℕ). little_number m place) len
    ∙ ap (little_number n) (is ∙ sym ends)
    ∙ little_from-bytes n 0 x []
    ∙ ap (λ (y : ℕ). y % 256 ^ n) (div-one x)
    ∙ mod-eq_of_lt lt

-- the runs begin at bit n or past it
abbrev pub are_above : ℕ → List Run → Bool
are_above n [] = true
are_above n (r ∷ rs) = nat_le n r.low && are_above n rs

-- below all runs, and past all of them, the old bits stay
low_kept : (rs : List Run) (n old value k : ℕ) → are_above n rs ≡ true → k < n → field_bit rs old value k ≡ bit_at old k
low_kept [] n old value k above lt = refl
low_kept (r ∷ rs) n old value k above lt =
    let parts = and_parts (nat_le n r.low) (are_above n rs) above in
    let le : n ≤ r.low = leb-true n r.low parts.0 in
    under r.low r.high k (bit_at value (r.from + (k - r.low))) (field_bit rs old value k) (omega (arith, le, lt)) ∙ low_kept rs n old value k parts.1 lt

high_kept : (rs : List Run) (n old value k : ℕ) → are_below n rs ≡ true → n ≤ k → field_bit rs old value k ≡ bit_at old k
high_kept [] n old value k below le = refl
high_kept (r ∷ rs) n old value k below le =
    let parts = and_parts (nat_lt r.high n) (are_below n rs) below in
    let lt : r.high < n = ltb-true r.high n parts.0 in
    over r.low r.high k (bit_at value (r.from + (k - r.low))) (field_bit rs old value k) (omega (arith, lt, le)) ∙ high_kept rs n old value k parts.1 le

pub jal_word : (rd x word : ℕ) (offset : ℤ) (old new : List ℕ) → rd < 2 ^ 5 → x ≡ 0x6f + rd * 2 ^ 7 → old ≡ little_bytes 4 x
    → HoldsValue (kind_of R_RISCV_JAL).field old offset new → Goes R_RISCV_JAL offset new → word ≡ little_number 4 new → IsJal rd offset word
unfolding kind_of
jal_word rd x word offset old new lt base is holds goes read =
    let size : length old ≡ 4 = ap length is ∙ length-bytes_low_first 0 4 x in
    let len : length new ≡ 4 = holds.same_length ∙ size in
    let word_is : word ≡ number_of new = read ∙ ap (λ (m : ℕ). little_number m new) (sym len) in
    let old_is : number_of old ≡ 0x6f + rd * 2 ^ 7 = number_back 4 x old (omega (arith, lt, base)) is ∙ base in
    let bits : (k : ℕ) → k < 32 → bit_at word k ≡ field_bit j_format (0x6f + rd * 2 ^ 7) (bits_of offset) k = λ k below.
    let inner : k < 8 * length old = omega (arith, size, below) in
    ap (λ (w : ℕ). bit_at w k) word_is ∙ holds.bits k inner ∙ ap (λ (n : ℕ). field_bit j_format n (bits_of offset) k) old_is in
    let kept : (k : ℕ) → k < 12 → bit_at word k ≡ bit_at (0x6f + rd * 2 ^ 7) k = λ k below.
    bits k (omega (arith, below)) ∙ low_kept j_format 12 (0x6f + rd * 2 ^ 7) (bits_of offset) k refl below in
    let low : word / 2 ^ 0 % 2 ^ 7 ≡ (0x6f + rd * 2 ^ 7) / 2 ^ 0 % 2 ^ 7 = one_held 0 6 0 word (0x6f + rd * 2 ^ 7) (λ i less. kept (0 + i) (omega (arith, less))) in
    let middle : word / 2 ^ 7 % 2 ^ 5 ≡ (0x6f + rd * 2 ^ 7) / 2 ^ 7 % 2 ^ 5 = one_held 7 11 7 word (0x6f + rd * 2 ^ 7) (λ i less. kept (7 + i) (omega (arith, less))) in
    record {
      opcode = omega (arith, low);
      register = omega (arith, middle, lt);
      bits = bits;
      goes = ap (λ (w : ℕ). signed 21 (held_in j_format w)) word_is ∙ goes.jump refl;
    }

pub short_word : (word : ℕ) (offset : ℤ) (old new : List ℕ) → old ≡ little_bytes 2 0xa001
    → HoldsValue (kind_of R_RISCV_RVC_JUMP).field old offset new → Goes R_RISCV_RVC_JUMP offset new → word ≡ little_number 2 new → IsShortJump offset word
unfolding kind_of
short_word word offset old new is holds goes read =
    let size : length old ≡ 2 = ap length is in
    let len : length new ≡ 2 = holds.same_length ∙ size in
    let word_is : word ≡ number_of new = read ∙ ap (λ (m : ℕ). little_number m new) (sym len) in
    let old_is : number_of old ≡ 0xa001 = ap number_of is in
    let bits : (k : ℕ) → k < 16 → bit_at word k ≡ field_bit cj_format 0xa001 (bits_of offset) k = λ k below.
    let inner : k < 8 * length old = omega (arith, size, below) in
    ap (λ (w : ℕ). bit_at w k) word_is ∙ holds.bits k inner ∙ ap (λ (n : ℕ). field_bit cj_format n (bits_of offset) k) old_is in
    let low : word / 2 ^ 0 % 2 ^ 2 ≡ 0xa001 / 2 ^ 0 % 2 ^ 2 = one_held 0 1 0 word 0xa001 (λ i less.
    bits (0 + i) (omega (arith, less)) ∙ low_kept cj_format 2 0xa001 (bits_of offset) (0 + i) refl (omega (arith, less))) in
    let high : word / 2 ^ 13 % 2 ^ 3 ≡ 0xa001 / 2 ^ 13 % 2 ^ 3 = one_held 13 15 13 word 0xa001 (λ i less.
    bits (13 + i) (omega (arith, less)) ∙ high_kept cj_format 13 0xa001 (bits_of offset) (13 + i) refl (omega arith)) in
    record {
      quadrant = omega (arith, low);
      funct3 = high;
      bits = bits;
      goes = ap (λ (w : ℕ). signed 12 (held_in cj_format w)) word_is ∙ goes.short_jump refl;
    }
