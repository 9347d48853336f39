-- The least multiple of an alignment that is not below a number.
use Rattle.std.proofs.Common.{◌≡◌, ℕ, ◌+◌, ◌-◌, ◌/◌, ◌%◌, ◌<◌, ◌≤◌, arith}
use native.Mathlib.Nat.{mul-mod_left}
use Rattle.lk_base.specs.Arithmetic.{up}

pub up_least : (x a : ℕ) → 1 ≤ a → x ≤ up x a
unfolding up
up_least x a some = omega arith

pub up_below : (x a : ℕ) → 1 ≤ a → up x a < x + a
unfolding up
up_below x a some = omega arith

pub up_multiple : (x a : ℕ) → up x a % a ≡ 0
unfolding up
up_multiple x a = mul-mod_left ((x + (a - 1)) / a) a
