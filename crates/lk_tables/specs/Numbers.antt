-- Numbers in a file, the lowest byte first (System V gABI, "Data Representation": Elf64_Half, Elf64_Word,
-- Elf64_Xword, Elf64_Sxword; ELFDATA2LSB).
use Rattle.std.specs.Prelude.{ℕ, ℤ, List, drop}
use Rattle.std.specs.Int.{w64, cast_signed}
use Rattle.byteorder.specs.Endian.{little_number}

-- the number in the 2, 4 or 8 bytes at an offset
unfoldable pub half_at : List ℕ → ℕ → ℕ
half_at bytes at = little_number 2 (drop at bytes)

unfoldable pub word_at : List ℕ → ℕ → ℕ
word_at bytes at = little_number 4 (drop at bytes)

unfoldable pub xword_at : List ℕ → ℕ → ℕ
xword_at bytes at = little_number 8 (drop at bytes)

-- the signed number in the 8 bytes at an offset
unfoldable pub sxword_at : List ℕ → ℕ → ℤ
sxword_at bytes at = cast_signed w64 (little_number 8 (drop at bytes))
