-- A count that stops at the last number of 64 bits.
use Rattle.std.specs.Prelude.{ℕ, ◌+◌, ◌-◌, ◌^◌, min}

abbrev pub added : (before more : ℕ) → ℕ
added before more = min (before + more) (2 ^ 64 - 1)
