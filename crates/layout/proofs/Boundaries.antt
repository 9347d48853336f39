-- The powers of two above a number, one after the other.
use Rattle.std.proofs.Common.{◌≡◌, ℕ, zero, suc, ◌+◌, ◌-◌, ◌*◌, ◌<◌, ◌≤◌, nat_lt, refl, inl, inr, arith}
use Rattle.std.proofs.lemmas.Bool.{cases_Bool, le-ltb, lt-ltb}
use Rattle.std.proofs.lemmas.Bool.Decides.{nat_tests}
use Rattle.layout.specs.Cutting.{boundary, needed, power_above}

above_now : (s power n : ℕ) → n < power → power_above (suc s) power n ≡ power
above_now s power n lt = rw (lt-ltb n power lt) refl

above_later : (s power n : ℕ) → power ≤ n → power_above (suc s) power n ≡ power_above s (2 * power) n
above_later s power n le = rw (le-ltb n power le) refl

pub found_at : (i power whole : ℕ) → i < 64 → whole < power → power ≡ power_above (64 - i) power whole
found_at i power whole lt above =
    let e : 64 - i ≡ suc (64 - (i + 1)) = omega arith in
    rw (e, above_now (64 - (i + 1)) power whole above) refl

pub raised : (i power whole : ℕ) → i < 64 → power ≤ whole → power_above (64 - (i + 1)) (power * 2) whole ≡ power_above (64 - i) power whole
raised i power whole lt below =
    let e : 64 - i ≡ suc (64 - (i + 1)) = omega arith in
    let twice : power * 2 ≡ 2 * power = omega arith in
    rw (e, above_later (64 - (i + 1)) power whole below, twice) refl

pub past_all : (i power whole : ℕ) → 64 ≤ i → power ≡ power_above (64 - i) power whole
past_all i power whole le = let e : 64 - i ≡ 0 = omega arith in rw e refl

-- the power is at least 1 and at most twice the number and 1
power_bounds : (s power n : ℕ) → 1 ≤ power → power ≤ 2 * n + 1 → (1 ≤ power_above s power n) × (power_above s power n ≤ 2 * n + 1)
power_bounds zero power n some most = (some, most)
power_bounds (suc s) power n some most =
    elim (cases_Bool (nat_lt n power)) [
      | inl above ↦ rw above (some, most)
      | inr other ↦
          let le : power ≤ n = grind (arith, nat_tests) in
          rw other (power_bounds s (2 * power) n (omega arith) (omega arith))
    ]

pub needed_most : (address whole : ℕ) → needed address whole ≤ 2 * whole
unfolding needed boundary
needed_most address whole =
    let b = power_bounds 64 1 whole (omega arith) (omega arith) in
    omega (arith, b.0, b.1)
