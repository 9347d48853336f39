-- A field of a word: runs of bits that are a value's.
use Rattle.std.specs.Prelude.{◌≡◌, ℕ, ◌+◌, ◌-◌, ◌<◌, ◌&&◌, if◌then◌else◌, nat_le, List, [], ◌∷◌}
use Rattle.std.specs.Int.{bit_at}

-- bits `high` down to `low` of the word are the value's bits from `from` on
pub record Run : Type 0 where
  pub high : ℕ
  pub low : ℕ
  pub from : ℕ

abbrev pub run : ℕ → ℕ → ℕ → Run
run high low from = record { high = high; low = low; from = from }

-- bit k of a word whose field holds `value`: the value's bit if a run has k, else the old word's
abbrev pub field_bit : List Run → (old value k : ℕ) → ℕ
field_bit [] old value k = bit_at old k
field_bit (r ∷ rs) old value k =
    if nat_le r.low k && nat_le k r.high then bit_at value (r.from + (k - r.low)) else field_bit rs old value k

-- the word `new` of so many bits is `old` with `value` in its field; each bit that no run has is as it was
abbrev pub HoldsField : List Run → ℕ → (old value new : ℕ) → Type 0
HoldsField field width old value new = (k : ℕ) → k < width → bit_at new k ≡ field_bit field old value k
