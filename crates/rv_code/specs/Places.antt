-- A value in a place. The bytes of a place are one number, the lowest first (unprivileged manual, "Base
-- Instruction-Length Encoding": parcels are little-endian), so bit k of the place is bit k of that number.
use Rattle.std.specs.Prelude.{◌≡◌, ℕ, zero, suc, ◌+◌, ◌-◌, ◌*◌, ◌/◌, ◌%◌, ◌^◌, ◌<◌, ◌≤◌, ◌⊎◌, ◌&&◌, if◌then◌else◌, nat_le, ℤ, pos, ◌+ℤ◌, List, [], ◌∷◌, length, take, drop}
use Rattle.std.specs.Int.{bit_at}
use Rattle.byteorder.specs.Endian.{little_number, little_bytes}
use Rattle.lk_base.specs.Arithmetic.{bits_of}
use Rattle.lk_base.specs.Fields.{Run, field_bit}
use Rattle.lk_base.specs.Formats.{Field}

-- bit k of a place that was the number `old`: the bit of the value + 0x800 or of the value if a run has k, else
-- the old one
abbrev pub placed_bit : (rounded plain : List Run) → (old : ℕ) → (v : ℤ) → (k : ℕ) → ℕ
placed_bit [] plain old v k = field_bit plain old (bits_of v) k
placed_bit (r ∷ rs) plain old v k =
    if nat_le r.low k && nat_le k r.high then bit_at (bits_of (v +ℤ pos 0x800)) (r.from + (k - r.low))
    else placed_bit rs plain old v k

-- the place as a number
abbrev pub number_of : List ℕ → ℕ
number_of place = little_number (length place) place

-- V: what so many bytes at an offset hold, as a number
abbrev pub held_at : (width at : ℕ) → (bytes : List ℕ) → ℤ
held_at width at bytes = pos (number_of (take width (drop at bytes)))

-- the place `new` is `old` with the value in its field; each bit that no run has is as it was
pub record HoldsValue (field : Field) (old : List ℕ) (v : ℤ) (new : List ℕ) : Type 0 where
  pub same_length : length new ≡ length old
  pub bits : (k : ℕ) → k < 8 * length old
      → bit_at (number_of new) k ≡ placed_bit field.rounded field.plain (number_of old) v k

-- a run has bit k
abbrev pub Names : List Run → ℕ → Type 0
Names [] k = ⊥
Names (r ∷ rs) k = ((r.low ≤ k) × (k ≤ r.high)) ⊎ Names rs k

-- the number that the runs of a word hold: the bits of each, where the value has them
abbrev pub held_in : List Run → ℕ → ℕ
held_in [] word = 0
held_in (r ∷ rs) word = word / 2 ^ r.low % 2 ^ (r.high - r.low + 1) * 2 ^ r.from + held_in rs word

-- the bits of a value that these runs have, and no others
abbrev pub kept_of : List Run → ℕ → ℕ
kept_of [] value = 0
kept_of (r ∷ rs) value = value / 2 ^ r.from % 2 ^ (r.high - r.low + 1) * 2 ^ r.from + kept_of rs value

-- what the place `new` is read as: by each list of runs the value's bits, and elsewhere what stood in `old`
pub record ReadsBack (field : Field) (old : List ℕ) (v : ℤ) (new : List ℕ) : Type 0 where
  pub plain : held_in field.plain (number_of new) ≡ kept_of field.plain (bits_of v)
  pub rounded : held_in field.rounded (number_of new) ≡ kept_of field.rounded (bits_of (v +ℤ pos 0x800))
  pub rest : (k : ℕ) → k < 8 * length old → ¬ Names field.rounded k → ¬ Names field.plain k
      → bit_at (number_of new) k ≡ bit_at (number_of old) k

-- the number of so many bits that has these bits
abbrev pub of_bits : ℕ → (ℕ → ℕ) → ℕ
of_bits zero bit = 0
of_bits (suc n) bit = bit n * 2 ^ n + of_bits n bit

-- the bytes of a place with the value in its field
unfoldable pub patched : Field → ℤ → List ℕ → List ℕ
patched field v place =
    little_bytes (length place) (of_bits 64 (placed_bit field.rounded field.plain (number_of place) v))
