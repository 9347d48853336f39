-- Which values a field takes.
use Rattle.std.specs.Prelude.{◌≡◌, ℕ, ◌%◌, ◌==◌, ◌&&◌, not, Bool, true, false, if◌then◌else◌, int_lt, Option, Some, None, ℤ, ◌≤ℤ◌, ◌<ℤ◌, ◌⊎◌, unsigned_abs, pos, neg_ℤ}
use Rattle.lk_base.specs.declared.defects.Misfit.{Misfit}
use Rattle.lk_base.specs.declared.defects.Misfit.TheVariants.{Odd, Range}
use Rattle.lk_base.specs.declared.relocations.Rule.{Rule}
use Rattle.lk_base.specs.declared.relocations.Rule.TheVariants.{Any, FromTo, EvenFromTo}

-- a number below 0
abbrev pub minus : ℕ → ℤ
minus n = neg_ℤ (pos n)

-- every value, of which the field holds the low bits; the values between two, which count; the even ones of them
pub data Reach : Type 0 where
  any : Reach
  from_to : (low high : ℤ) → Reach
  even_from_to : (low high : ℤ) → Reach

abbrev pub IsEven : ℤ → Type 0
IsEven v = unsigned_abs v % 2 ≡ 0

abbrev pub IsOdd : ℤ → Type 0
IsOdd v = unsigned_abs v % 2 ≡ 1

abbrev pub IsWithin : (low high v : ℤ) → Type 0
IsWithin low high v = (low ≤ℤ v) × (v ≤ℤ high)

abbrev pub IsOutside : (low high v : ℤ) → Type 0
IsOutside low high v = (v <ℤ low) ⊎ (high <ℤ v)

-- the value is one that is taken
abbrev pub Takes : Reach → ℤ → Type 0
Takes any v = Unit {0}
Takes (from_to low high) v = IsWithin low high v
Takes (even_from_to low high) v = IsEven v × IsWithin low high v

-- why the value is not taken: oddness comes before range
abbrev pub Refuses : Reach → ℤ → Misfit → Type 0
Refuses any v misfit = ⊥
Refuses (from_to low high) v Odd = ⊥
Refuses (from_to low high) v Range = IsOutside low high v
Refuses (even_from_to low high) v Odd = IsOdd v
Refuses (even_from_to low high) v Range = IsEven v × IsOutside low high v

-- as a function: why a value is not taken, if it is not
abbrev pub is_within : (low high v : ℤ) → Bool
is_within low high v = not (int_lt v low) && not (int_lt high v)

abbrev pub range_of : Bool → Option Misfit
range_of true = None
range_of false = Some Range

abbrev pub misfit_of : Reach → ℤ → Option Misfit
misfit_of any v = None
misfit_of (from_to low high) v = range_of (is_within low high v)
misfit_of (even_from_to low high) v = if unsigned_abs v % 2 == 0 then range_of (is_within low high v) else Some Odd

-- the reach of each of the code's rules
abbrev pub reach_of : Rule → Reach
reach_of Any = any
reach_of (FromTo low high) = from_to low high
reach_of (EvenFromTo low high) = even_from_to low high
