-- Of two powers of two the less one divides the other.
use Rattle.std.proofs.Common.{◌≡◌, ℕ, zero, suc, ◌+◌, ◌*◌, ◌/◌, ◌%◌, ◌≤◌, true, ap, sym, ◌∙◌, subst, arith, inl, inr, count_ones}
use Rattle.std.specs.Int.{is_power_of_two}
use Rattle.std.specs.Int.Count.{ones_step}
use Rattle.std.proofs.Math.Nat.{mul-add, mul-mod_left, mul_assoc}
use Rattle.std.proofs.lemmas.Bool.{cases_lt, eq-eqb, eqb-true}
use Rattle.std.proofs.lemmas.Nat.{div-add-mod', ones_le_self, zero_from_ones}

-- a multiple of a multiple
pub through : (x g a : ℕ) → x % g ≡ 0 → g % a ≡ 0 → x % a ≡ 0
through x g a outer inner =
    let q : ℕ = x / g in
    let i : ℕ = g / a in
    let whole : q * g ≡ x = omega (arith, div-add-mod' x g, outer) in
    let part : i * a ≡ g = omega (arith, div-add-mod' g a, inner) in
    subst (λ k. k % a ≡ 0) (mul_assoc q i a ∙ ap (λ k. q * k) part ∙ whole) (mul-mod_left (q * i) a)

doubled : (h k m n : ℕ) → m ≡ h + h → n ≡ k + k → k % h ≡ 0 → n % m ≡ 0
doubled h k m n half half' none =
    let q : ℕ = k / h in
    let whole : q * h ≡ k = omega (arith, div-add-mod' k h, none) in
    let apart : q * m ≡ q * h + q * h = ap (λ x. q * x) half ∙ mul-add q h h in
    let same : q * m ≡ n = omega (arith, apart, whole, half') in
    subst (λ x. x % m ≡ 0) same (mul-mod_left q m)

-- one that is not 1 is power_even
pub power_even : (n : ℕ) → is_power_of_two n ≡ true → 2 ≤ n → n % 2 ≡ 0
power_even n is some =
    let one : count_ones n ≡ 1 = eqb-true (count_ones n) 1 is in
    let step = ones_step n in
    elim (cases_lt 0 (n % 2)) [
      | inl odd ↦ absurd (let none : n / 2 ≡ 0 = zero_from_ones (n / 2) (omega (arith, one, step, odd)) in omega (arith, none, some))
      | inr whole ↦ omega (arith, whole)
    ]

halved : (n : ℕ) → is_power_of_two n ≡ true → n % 2 ≡ 0 → is_power_of_two (n / 2) ≡ true
halved n is none =
    let one : count_ones n ≡ 1 = eqb-true (count_ones n) 1 is in
    let half : count_ones (n / 2) ≡ 1 = omega (arith, one, ones_step n, none) in
    eq-eqb (count_ones (n / 2)) 1 half

divides_by : (fuel m n : ℕ) → m ≤ fuel → is_power_of_two m ≡ true → is_power_of_two n ≡ true → m ≤ n → n % m ≡ 0
divides_by zero m n low one other le = absurd (omega (arith, low, eqb-true (count_ones m) 1 one, ones_le_self m))
divides_by (suc fuel) m n low one other le =
    elim (cases_lt 1 m) [
      | inl more ↦
          let first : m % 2 ≡ 0 = power_even m one (omega (arith, more)) in
          let second : n % 2 ≡ 0 = power_even n other (omega (arith, more, le)) in
          doubled (m / 2) (n / 2) m n (omega (arith, first)) (omega (arith, second))
          (divides_by fuel (m / 2) (n / 2) (omega (arith, low, more)) (halved m one first) (halved n other second) (omega (arith, le)))
      | inr most ↦
          let same : 1 ≡ m = omega (arith, most, eqb-true (count_ones m) 1 one, ones_le_self m) in
          subst (λ k. n % k ≡ 0) same (omega arith)
    ]

pub divides : (m n : ℕ) → is_power_of_two m ≡ true → is_power_of_two n ≡ true → m ≤ n → n % m ≡ 0
divides m n one other le = divides_by m m n (omega arith) one other le
