-- Numbers modulo 2^64, and multiples of an alignment.
use Rattle.std.specs.Prelude.{ℕ, ◌+◌, ◌-◌, ◌*◌, ◌/◌, ◌^◌, ℤ, pos, unsigned_abs}
use Rattle.std.specs.Int.{int_rem_euclid}

-- a value's bits: those of the value modulo 2^64, which is two's complement
unfoldable pub bits_of : ℤ → ℕ
bits_of v = unsigned_abs (int_rem_euclid v (pos (2 ^ 64)))

-- the least multiple of an alignment that is not below x
unfoldable pub up : ℕ → ℕ → ℕ
up x align = (x + (align - 1)) / align * align
