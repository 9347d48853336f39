-- A value in a ULEB128 number: byte by byte, and what the number is read as.
use Rattle.std.proofs.Common.{◌≡◌, ℕ, zero, suc, ◌+◌, ◌-◌, ◌*◌, ◌/◌, ◌%◌, ◌^◌, ◌<◌, ◌≤◌, min, List, length, map, get_or, set, refl, sym, ap, ◌∙◌, arith, inl, inr, ℤ, pos, negsuc}
use Rattle.std.specs.List.{range_with_len}
use Rattle.std.proofs.Math.Nat.{div-div-eq-div-mul, pow-le-pow_right, pow-succ'}
use Rattle.std.proofs.lemmas.Bool.{cases_eq}
use Rattle.std.proofs.lemmas.Int.{ints}
use Rattle.std.proofs.lemmas.Nat.{pow-add, pow_pos}
use Rattle.std.proofs.lemmas.List.{get_or-set_other, get_or-set_same, length-set}
use Rattle.std.proofs.lemmas.List.FromFn.{fill_by_all}
use Rattle.lk_base.specs.Reaches.{Takes}
use Rattle.rv_code.specs.Uleb.{uleb_bits, uleb_filled, uleb_number, uleb_patched, uleb_reach}

abbrev byte_at : ℕ → List ℕ → ℕ → ℕ
byte_at bits place i = get_or place i 0 / 128 * 128 + bits / 128 ^ i % 128

-- the bytes below i hold their bits, and the others are as they were
pub record AreFilled (bits : ℕ) (old new : List ℕ) (i : ℕ) : Type 0 where
  pub len : length new ≡ length old
  pub done : (k : ℕ) → k < i → get_or new k 0 ≡ byte_at bits old k
  pub rest : (k : ℕ) → i ≤ k → get_or new k 0 ≡ get_or old k 0

pub none_filled : (bits : ℕ) (old : List ℕ) → AreFilled bits old old 0
none_filled bits old = record { len = refl; done = λ k lt. absurd (omega (arith, lt)); rest = λ k le. refl }

pub one_filled : (bits : ℕ) (old new : List ℕ) (i left : ℕ) → AreFilled bits old new i → i < length new → left ≡ bits / 128 ^ i →
    AreFilled bits old (set new i (get_or new i 0 / 128 * 128 + left % 128)) (i + 1)
one_filled bits old new i left is lt e =
    let y = get_or new i 0 / 128 * 128 + left % 128 in
    let here : y ≡ byte_at bits old i = ap (λ b. b / 128 * 128 + left % 128) (is.rest i (omega arith)) ∙ ap (λ n. get_or old i 0 / 128 * 128 + n % 128) e in
    record {
      len = length-set new i y ∙ is.len;
      done = λ k less.
          elim (cases_eq k i) [
            | inl same ↦ ap (λ j. get_or (set new i y) j 0) same ∙ (get_or-set_same new i y 0 lt ∙ (here ∙ ap (byte_at bits old) (sym same)))
            | inr other ↦ get_or-set_other new i k y 0 other ∙ is.done k (omega (arith, less, other))
          ];
      rest = λ k more. get_or-set_other new i k y 0 (λ same. absurd (omega (arith, more, same))) ∙ is.rest k (omega (arith, more));
    }

pub all_filled : (bits : ℕ) (old new : List ℕ) → AreFilled bits old new (length old) → new ≡ uleb_filled bits old
unfolding uleb_filled
all_filled bits old new is = fill_by_all (byte_at bits old) new (length old) 0 is.len is.done

pow_next : (i : ℕ) → 128 ^ (i + 1) ≡ 128 ^ i * 128
pow_next i = ap (λ n. 128 ^ n) (omega arith) ∙ (pow-succ' 128 i ∙ omega arith)

-- the rest of the bits, one byte on
pub left_next : (n i left : ℕ) → left ≡ n / 128 ^ i → left / 128 ≡ n / 128 ^ (i + 1)
left_next n i left e = ap (λ m. m / 128) e ∙ (div-div-eq-div-mul n (128 ^ i) 128 ∙ ap (λ m. n / m) (sym (pow_next i)))

-- the bytes from a on are read as the bits from byte a on
read_from : (f : ℕ → ℕ) (x n a y : ℕ) → y ≡ x / 128 ^ a → y < 128 ^ n → uleb_number (map (λ i. f i * 128 + x / 128 ^ i % 128) (range_with_len a n)) ≡ y
read_from f x zero a y e less = omega (arith, less)
read_from f x (suc n) a y e less =
    let size : 128 ^ (suc n) ≡ 128 * 128 ^ n = pow-succ' 128 n in
    let later = read_from f x n (a + 1) (y / 128) (left_next x a y e) (omega (arith, less, size)) in
    let part : x / 128 ^ a % 128 ≡ y % 128 = ap (λ m. m % 128) (sym e) in
    omega (arith, later, part)

-- seven bits a byte
sevens : (n : ℕ) → 2 ^ (7 * n) ≡ 128 ^ n
sevens zero = refl
sevens (suc n) =
    ap (λ m. 2 ^ m) (omega arith) ∙ (pow-add 2 7 (7 * n) ∙ (ap (λ m. 128 * m) (sevens n) ∙ sym (pow-succ' 128 n)))

small_bits : (x : ℕ) → x < 2 ^ 70 → uleb_bits (pos x) ≡ x
unfolding uleb_bits
small_bits x less = omega (arith, less)

read_natural : (x : ℕ) (place : List ℕ) → x ≤ 2 ^ min (7 * length place) 64 - 1 → uleb_number (uleb_patched (pos x) place) ≡ x
unfolding uleb_filled
read_natural x place le =
    let n = length place in
    let two : 0 < 2 = omega arith in
    let under : min (7 * n) 64 ≤ 64 = omega arith in
    let within : min (7 * n) 64 ≤ 7 * n = omega arith in
    let few : 2 ^ min (7 * n) 64 ≤ 2 ^ 64 = pow-le-pow_right two under in
    let own : 2 ^ min (7 * n) 64 ≤ 2 ^ (7 * n) = pow-le-pow_right two within in
    let some : 0 < 2 ^ min (7 * n) 64 = pow_pos (min (7 * n) 64) in
    let bits : uleb_bits (pos x) ≡ x = small_bits x (omega (arith, le, few, some)) in
    ap (λ b. uleb_number (map (λ i. get_or place i 0 / 128 * 128 + b / 128 ^ i % 128) (range_with_len 0 n))) bits
    ∙ read_from (λ i. get_or place i 0 / 128) x n 0 x (omega arith) (omega (arith, le, own, sevens n, some))

-- a number with a value in it is read as the value
pub reads_back : (v : ℤ) (place : List ℕ) → Takes (uleb_reach (length place)) v → pos (uleb_number (uleb_patched v place)) ≡ v
reads_back (pos x) place takes = ap pos (read_natural x place (omega (arith, ints, takes.1)))
reads_back (negsuc x) place takes = absurd (omega (arith, ints, takes.0))
