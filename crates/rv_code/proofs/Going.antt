-- A patched branch, jump or call goes by the value.
use Rattle.std.proofs.Common.{◌≡◌, ℕ, ◌+◌, ◌-◌, ◌%◌, ◌^◌, ◌<◌, ◌≤◌, List, arith, inl, inr, sym, ◌∙◌, ap, subst, ℤ, pos, negsuc, ◌+ℤ◌, ◌-ℤ◌, ◌≤ℤ◌}
use Rattle.std.proofs.lemmas.Nat.{mod-pow-add}
use Rattle.std.proofs.lemmas.Int.{ints}
use Rattle.std.proofs.lemmas.Bool.{cases_lt}
use Rattle.std.proofs.lemmas.Bool.Decides.{nat_tests}
use Rattle.lk_base.specs.Formats.{j_format, b_format, cb_format, cj_format, u_format, second_i_format}
use Rattle.lk_base.specs.declared.abi.TheConstants.{R_RISCV_BRANCH, R_RISCV_CALL, R_RISCV_CALL_PLT, R_RISCV_JAL, R_RISCV_RVC_BRANCH, R_RISCV_RVC_JUMP}
use Rattle.lk_base.specs.RelocKinds.{kind_of}
use Rattle.lk_base.specs.Arithmetic.{bits_of}
use Rattle.rv_code.specs.Places.{number_of, held_in, kept_of, ReadsBack}
use Rattle.lk_base.specs.Reaches.{Takes, IsEven, IsWithin}
use Rattle.rv_code.specs.Transfers.{signed, Goes}
use Rattle.rv_code.proofs.WholePlaces.{rounded_bits}

-- an even value's low bits, from the pieces that a format cuts it into
b_kept : (x : ℕ) → kept_of b_format x + x % 2 ≡ x % 2 ^ 13
b_kept x = omega (arith, mod-pow-add x 1 12, mod-pow-add x 1 11, mod-pow-add x 6 5, mod-pow-add x 4 1)

j_kept : (x : ℕ) → kept_of j_format x + x % 2 ≡ x % 2 ^ 21
j_kept x = omega (arith, mod-pow-add x 1 20, mod-pow-add x 8 12, mod-pow-add x 1 11, mod-pow-add x 10 1)

cb_kept : (x : ℕ) → kept_of cb_format x + x % 2 ≡ x % 2 ^ 9
cb_kept x = omega (arith, mod-pow-add x 1 8, mod-pow-add x 2 6, mod-pow-add x 1 5, mod-pow-add x 2 3, mod-pow-add x 2 1)

cj_kept : (x : ℕ) → kept_of cj_format x + x % 2 ≡ x % 2 ^ 12
cj_kept x = omega (arith, mod-pow-add x 1 11, mod-pow-add x 1 10, mod-pow-add x 2 8, mod-pow-add x 1 7, mod-pow-add x 1 6, mod-pow-add x 1 5, mod-pow-add x 1 4, mod-pow-add x 3 1)

even_bits : (v : ℤ) → IsEven v → bits_of v % 2 ≡ 0
unfolding bits_of
even_bits (pos a) even = omega arith
even_bits (negsuc a) even = omega arith

low_signed : (n x : ℕ) → x < 2 ^ (n - 1) → signed n x ≡ pos x
low_signed n x lt = grind (arith, nat_tests)

high_signed : (n x : ℕ) → 2 ^ (n - 1) ≤ x → signed n x ≡ (pos x -ℤ pos (2 ^ n))
high_signed n x le = grind (arith, nat_tests)

signed_13 : (v : ℤ) → IsWithin (negsuc 4095) (pos 4095) v → signed 13 (bits_of v % 2 ^ 13) ≡ v
unfolding bits_of
signed_13 (pos a) within =
    let low : a < 4096 = omega (arith, ints, within.1) in
    let e : a % 2 ^ 64 % 2 ^ 13 ≡ a = omega arith in
    ap (signed 13) e ∙ low_signed 13 a low
signed_13 (negsuc a) within =
    let low : a < 4096 = omega (arith, ints, within.0) in
    let e : (2 ^ 64 - 1 - a % 2 ^ 64) % 2 ^ 13 ≡ 2 ^ 13 - 1 - a = omega arith in
    ap (signed 13) e ∙ high_signed 13 (2 ^ 13 - 1 - a) (omega arith) ∙ omega (arith, ints)

signed_21 : (v : ℤ) → IsWithin (negsuc 1048575) (pos 1048575) v → signed 21 (bits_of v % 2 ^ 21) ≡ v
unfolding bits_of
signed_21 (pos a) within =
    let low : a < 1048576 = omega (arith, ints, within.1) in
    let e : a % 2 ^ 64 % 2 ^ 21 ≡ a = omega arith in
    ap (signed 21) e ∙ low_signed 21 a low
signed_21 (negsuc a) within =
    let low : a < 1048576 = omega (arith, ints, within.0) in
    let e : (2 ^ 64 - 1 - a % 2 ^ 64) % 2 ^ 21 ≡ 2 ^ 21 - 1 - a = omega arith in
    ap (signed 21) e ∙ high_signed 21 (2 ^ 21 - 1 - a) (omega arith) ∙ omega (arith, ints)

signed_9 : (v : ℤ) → IsWithin (negsuc 255) (pos 255) v → signed 9 (bits_of v % 2 ^ 9) ≡ v
unfolding bits_of
signed_9 (pos a) within =
    let low : a < 256 = omega (arith, ints, within.1) in
    let e : a % 2 ^ 64 % 2 ^ 9 ≡ a = omega arith in
    ap (signed 9) e ∙ low_signed 9 a low
signed_9 (negsuc a) within =
    let low : a < 256 = omega (arith, ints, within.0) in
    let e : (2 ^ 64 - 1 - a % 2 ^ 64) % 2 ^ 9 ≡ 2 ^ 9 - 1 - a = omega arith in
    ap (signed 9) e ∙ high_signed 9 (2 ^ 9 - 1 - a) (omega arith) ∙ omega (arith, ints)

signed_12 : (v : ℤ) → IsWithin (negsuc 2047) (pos 2047) v → signed 12 (bits_of v % 2 ^ 12) ≡ v
unfolding bits_of
signed_12 (pos a) within =
    let low : a < 2048 = omega (arith, ints, within.1) in
    let e : a % 2 ^ 64 % 2 ^ 12 ≡ a = omega arith in
    ap (signed 12) e ∙ low_signed 12 a low
signed_12 (negsuc a) within =
    let low : a < 2048 = omega (arith, ints, within.0) in
    let e : (2 ^ 64 - 1 - a % 2 ^ 64) % 2 ^ 12 ≡ 2 ^ 12 - 1 - a = omega arith in
    ap (signed 12) e ∙ high_signed 12 (2 ^ 12 - 1 - a) (omega arith) ∙ omega (arith, ints)

-- an upper part and a signed lower part add up to the value
u_kept : (x : ℕ) → kept_of u_format x + x % 4096 ≡ x % 2 ^ 32
u_kept x = omega (arith, mod-pow-add x 20 12)

i_kept : (x : ℕ) → kept_of second_i_format x ≡ x % 4096
i_kept x = omega arith

sum_of : (u l : ℕ) (p q v : ℤ) → signed 32 u ≡ p → signed 12 l ≡ q → p +ℤ q ≡ v → signed 32 u +ℤ signed 12 l ≡ v
sum_of u l p q v e f g = ap (λ (z : ℤ). z +ℤ signed 12 l) e ∙ ap (λ (z : ℤ). p +ℤ z) f ∙ g

forward : (a u l : ℕ) → a < 2147481600 → u + (a + 2048) % 4096 ≡ (a + 2048) % 2 ^ 32 → l ≡ a % 4096
    → signed 32 u +ℤ signed 12 l ≡ pos a
forward a u l lt upper lower =
    elim (cases_lt l 2048) [
      | inl small ↦ sum_of u l (pos u) (pos l) (pos a) (low_signed 32 u (omega arith)) (low_signed 12 l small) (omega (arith, ints))
      | inr large ↦ sum_of u l (pos u) (pos l -ℤ pos 4096) (pos a) (low_signed 32 u (omega arith)) (high_signed 12 l large) (omega (arith, ints))
    ]

-- x is the value + 0x800 modulo 2^64
backward_near : (a u l x : ℕ) → a < 2048 → x ≡ 2047 - a → u + x % 4096 ≡ x % 2 ^ 32 → l ≡ 4095 - a
    → signed 32 u +ℤ signed 12 l ≡ negsuc a
backward_near a u l x lt is upper lower =
    sum_of u l (pos u) (pos l -ℤ pos 4096) (negsuc a) (low_signed 32 u (omega arith)) (high_signed 12 l (omega arith)) (omega (arith, ints))

backward_far : (a u l x : ℕ) → 2048 ≤ a → a < 2147485696 → x ≡ 2 ^ 64 + 2047 - a → u + x % 4096 ≡ x % 2 ^ 32 → l ≡ 4095 - a % 4096
    → signed 32 u +ℤ signed 12 l ≡ negsuc a
backward_far a u l x ge lt is upper lower =
    elim (cases_lt l 2048) [
      | inl small ↦ sum_of u l (pos u -ℤ pos (2 ^ 32)) (pos l) (negsuc a) (high_signed 32 u (omega arith)) (low_signed 12 l small) (omega (arith, ints))
      | inr large ↦ sum_of u l (pos u -ℤ pos (2 ^ 32)) (pos l -ℤ pos 4096) (negsuc a) (high_signed 32 u (omega arith)) (high_signed 12 l large) (omega (arith, ints))
    ]

pub plain_bits_pos : (a : ℕ) → a < 2 ^ 64 → bits_of (pos a) ≡ a
unfolding bits_of
plain_bits_pos a lt = omega arith

plain_bits_neg : (a : ℕ) → a < 2 ^ 64 → bits_of (negsuc a) ≡ 2 ^ 64 - 1 - a
unfolding bits_of
plain_bits_neg a lt = omega arith

call_goes : (v : ℤ) → IsWithin (negsuc 2147485695) (pos 2147481599) v
    → signed 32 (kept_of u_format (bits_of (v +ℤ pos 0x800))) +ℤ signed 12 (kept_of second_i_format (bits_of v)) ≡ v
call_goes (pos a) within =
    let lt : a < 2147481600 = omega (arith, ints, within.1) in
    let b : bits_of (pos a) ≡ a = plain_bits_pos a (omega arith) in
    let x : bits_of (pos a +ℤ pos 0x800) ≡ a + 2048 = plain_bits_pos (a + 2048) (omega arith) in
    forward a (kept_of u_format (bits_of (pos a +ℤ pos 0x800))) (kept_of second_i_format (bits_of (pos a))) lt
    (ap (λ (n : ℕ). kept_of u_format n + (a + 2048) % 4096) x ∙ u_kept (a + 2048))
    (ap (kept_of second_i_format) b ∙ i_kept a)
call_goes (negsuc a) within =
    let lt : a < 2147485696 = omega (arith, ints, within.0) in
    let b : bits_of (negsuc a) ≡ 2 ^ 64 - 1 - a = plain_bits_neg a (omega arith) in
    let x : bits_of (negsuc a +ℤ pos 0x800) ≡ (2 ^ 64 - 1 - a + 2048) % 2 ^ 64 =
    sym (rounded_bits (negsuc a)) ∙ ap (λ (n : ℕ). (n + 2048) % 2 ^ 64) b in
    let upper = u_kept (bits_of (negsuc a +ℤ pos 0x800)) in
    let lower : kept_of second_i_format (bits_of (negsuc a)) ≡ (2 ^ 64 - 1 - a) % 4096 =
    ap (kept_of second_i_format) b ∙ i_kept (2 ^ 64 - 1 - a) in
    elim (cases_lt a 2048) [
      | inl near ↦
          backward_near a (kept_of u_format (bits_of (negsuc a +ℤ pos 0x800))) (kept_of second_i_format (bits_of (negsuc a)))
          (bits_of (negsuc a +ℤ pos 0x800)) near (x ∙ omega arith) upper (lower ∙ omega arith)
      | inr past ↦
          backward_far a (kept_of u_format (bits_of (negsuc a +ℤ pos 0x800))) (kept_of second_i_format (bits_of (negsuc a)))
          (bits_of (negsuc a +ℤ pos 0x800)) past lt (x ∙ omega arith) upper (lower ∙ omega arith)
    ]

-- an even value in a field that holds all its bits but the lowest
even_held : (held kept n : ℕ) (v : ℤ) → held ≡ kept → kept + bits_of v % 2 ≡ bits_of v % 2 ^ n → IsEven v → held ≡ bits_of v % 2 ^ n
even_held held kept n v same all even = omega (arith, even_bits v even, same, all)

b_goes : (v : ℤ) (old new : List ℕ) → Takes (kind_of R_RISCV_BRANCH).reach v → ReadsBack (kind_of R_RISCV_BRANCH).field old v new
    → signed 13 (held_in b_format (number_of new)) ≡ v
unfolding kind_of
b_goes v old new takes back =
    let high : v ≤ℤ pos 4095 = omega (arith, ints, takes.1.1) in
    ap (signed 13) (even_held (held_in b_format (number_of new)) (kept_of b_format (bits_of v)) 13 v back.plain (b_kept (bits_of v)) takes.0)
    ∙ signed_13 v (takes.1.0, high)

j_goes : (v : ℤ) (old new : List ℕ) → Takes (kind_of R_RISCV_JAL).reach v → ReadsBack (kind_of R_RISCV_JAL).field old v new
    → signed 21 (held_in j_format (number_of new)) ≡ v
unfolding kind_of
j_goes v old new takes back =
    let high : v ≤ℤ pos 1048575 = omega (arith, ints, takes.1.1) in
    ap (signed 21) (even_held (held_in j_format (number_of new)) (kept_of j_format (bits_of v)) 21 v back.plain (j_kept (bits_of v)) takes.0)
    ∙ signed_21 v (takes.1.0, high)

cb_goes : (v : ℤ) (old new : List ℕ) → Takes (kind_of R_RISCV_RVC_BRANCH).reach v → ReadsBack (kind_of R_RISCV_RVC_BRANCH).field old v new
    → signed 9 (held_in cb_format (number_of new)) ≡ v
unfolding kind_of
cb_goes v old new takes back =
    let high : v ≤ℤ pos 255 = omega (arith, ints, takes.1.1) in
    ap (signed 9) (even_held (held_in cb_format (number_of new)) (kept_of cb_format (bits_of v)) 9 v back.plain (cb_kept (bits_of v)) takes.0)
    ∙ signed_9 v (takes.1.0, high)

cj_goes : (v : ℤ) (old new : List ℕ) → Takes (kind_of R_RISCV_RVC_JUMP).reach v → ReadsBack (kind_of R_RISCV_RVC_JUMP).field old v new
    → signed 12 (held_in cj_format (number_of new)) ≡ v
unfolding kind_of
cj_goes v old new takes back =
    let high : v ≤ℤ pos 2047 = omega (arith, ints, takes.1.1) in
    ap (signed 12) (even_held (held_in cj_format (number_of new)) (kept_of cj_format (bits_of v)) 12 v back.plain (cj_kept (bits_of v)) takes.0)
    ∙ signed_12 v (takes.1.0, high)

call_18_goes : (v : ℤ) (old new : List ℕ) → Takes (kind_of R_RISCV_CALL).reach v → ReadsBack (kind_of R_RISCV_CALL).field old v new
    → signed 32 (held_in u_format (number_of new)) +ℤ signed 12 (held_in second_i_format (number_of new)) ≡ v
unfolding kind_of
call_18_goes v old new takes back =
    ap (λ (u : ℕ). signed 32 u +ℤ signed 12 (held_in second_i_format (number_of new))) back.rounded
    ∙ ap (λ (l : ℕ). signed 32 (kept_of u_format (bits_of (v +ℤ pos 0x800))) +ℤ signed 12 l) back.plain
    ∙ call_goes v takes

call_19_goes : (v : ℤ) (old new : List ℕ) → Takes (kind_of R_RISCV_CALL_PLT).reach v → ReadsBack (kind_of R_RISCV_CALL_PLT).field old v new
    → signed 32 (held_in u_format (number_of new)) +ℤ signed 12 (held_in second_i_format (number_of new)) ≡ v
unfolding kind_of
call_19_goes v old new takes back =
    ap (λ (u : ℕ). signed 32 u +ℤ signed 12 (held_in second_i_format (number_of new))) back.rounded
    ∙ ap (λ (l : ℕ). signed 32 (kept_of u_format (bits_of (v +ℤ pos 0x800))) +ℤ signed 12 l) back.plain
    ∙ call_goes v takes

pub goes : (number : ℕ) (v : ℤ) (old new : List ℕ) → Takes (kind_of number).reach v
    → ReadsBack (kind_of number).field old v new → Goes number v new
goes number v old new takes back = record {
  branch = λ e.
      let t : Takes (kind_of R_RISCV_BRANCH).reach v = subst (λ n. Takes (kind_of n).reach v) e takes in
      let r : ReadsBack (kind_of R_RISCV_BRANCH).field old v new = subst (λ n. ReadsBack (kind_of n).field old v new) e back in
      b_goes v old new t r;
  jump = λ e.
      let t : Takes (kind_of R_RISCV_JAL).reach v = subst (λ n. Takes (kind_of n).reach v) e takes in
      let r : ReadsBack (kind_of R_RISCV_JAL).field old v new = subst (λ n. ReadsBack (kind_of n).field old v new) e back in
      j_goes v old new t r;
  call = λ e. elim e [
    | inl f ↦
        let t : Takes (kind_of R_RISCV_CALL).reach v = subst (λ n. Takes (kind_of n).reach v) f takes in
        let r : ReadsBack (kind_of R_RISCV_CALL).field old v new = subst (λ n. ReadsBack (kind_of n).field old v new) f back in
        call_18_goes v old new t r
    | inr f ↦
        let t : Takes (kind_of R_RISCV_CALL_PLT).reach v = subst (λ n. Takes (kind_of n).reach v) f takes in
        let r : ReadsBack (kind_of R_RISCV_CALL_PLT).field old v new = subst (λ n. ReadsBack (kind_of n).field old v new) f back in
        call_19_goes v old new t r
  ];
  short_branch = λ e.
      let t : Takes (kind_of R_RISCV_RVC_BRANCH).reach v = subst (λ n. Takes (kind_of n).reach v) e takes in
      let r : ReadsBack (kind_of R_RISCV_RVC_BRANCH).field old v new = subst (λ n. ReadsBack (kind_of n).field old v new) e back in
      cb_goes v old new t r;
  short_jump = λ e.
      let t : Takes (kind_of R_RISCV_RVC_JUMP).reach v = subst (λ n. Takes (kind_of n).reach v) e takes in
      let r : ReadsBack (kind_of R_RISCV_RVC_JUMP).field old v new = subst (λ n. ReadsBack (kind_of n).field old v new) e back in
      cj_goes v old new t r;
}
