-- Values in ULEB128 numbers (DWARF, "Variable Length Data"): seven bits a byte, the lowest first. Bit 7 of a byte says that
-- another one follows; a value leaves it, so that the number stays as long as it is.
use Rattle.std.specs.Prelude.{ℕ, ◌+◌, ◌-◌, ◌*◌, ◌/◌, ◌%◌, ◌^◌, ℤ, pos, unsigned_abs, min, List, [], ◌∷◌, length, map, slice_index}
use Rattle.std.specs.Int.{int_rem_euclid}
use Rattle.std.specs.List.{range_with_len}
use Rattle.lk_base.specs.Reaches.{Reach, from_to}

-- what a number of n bytes takes: what is not negative, has no more than seven bits a byte, and no more than 64
abbrev pub uleb_reach : (n : ℕ) → Reach
uleb_reach n = from_to (pos 0) (pos (2 ^ min (7 * n) 64 - 1))

-- the bits of a value that a place has room for: those of ten bytes, of the value as two's complement
unfoldable pub uleb_bits : ℤ → ℕ
uleb_bits v = unsigned_abs (int_rem_euclid v (pos (2 ^ 70)))

-- a place with such bits in it: byte i has bits 7i to 7i + 6, and keeps its bit 7
unfoldable pub uleb_filled : (bits : ℕ) → List ℕ → List ℕ
uleb_filled bits place = map (λ i. slice_index place i / 128 * 128 + bits / 128 ^ i % 128) (range_with_len 0 (length place))

abbrev pub uleb_patched : ℤ → List ℕ → List ℕ
uleb_patched v place = uleb_filled (uleb_bits v) place

-- the number that a place is read as
abbrev pub uleb_number : List ℕ → ℕ
uleb_number [] = 0
uleb_number (b ∷ bs) = b % 128 + 128 * uleb_number bs
