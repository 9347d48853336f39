-- Numbers as a file has them, the lowest byte first (System V gABI, "Data Representation").
use Rattle.std.specs.Prelude.{ℕ, List}
use Rattle.std.specs.Int.{to_le_bytes, w16, w32, w64}

-- numbers of 2, 4 and 8 bytes
unfoldable pub half : ℕ → List ℕ
half n = to_le_bytes w16 n

unfoldable pub word : ℕ → List ℕ
word n = to_le_bytes w32 n

unfoldable pub long : ℕ → List ℕ
long n = to_le_bytes w64 n
