-- Calls and their targets as points, if each call had eight bytes.
use Rattle.std.specs.Prelude.{◌≡◌, ℕ, ◌+◌, ◌-◌, ◌<◌, ◌≤◌, ◌^◌, ◌⊎◌, nat_le, Bool, if◌then◌else◌, List, [], ◌∷◌, length, map, slice_index_or, All}
use Rattle.std.specs.List.{prefix_len, range_with_len, sum_by}
use Rattle.std.specs.List.Sorted.{IsNonDecreasingBy}
use Rattle.relax.specs.declared.calls.Call.{Call}
use Rattle.relax.specs.declared.jumps.Jump.{Jump}
use Rattle.relax.specs.declared.jumps.Mark.{Mark}
use Rattle.relax.specs.declared.jumps.Point.{Point}
use Rattle.output_sections.specs.declared.rows.Row.{Row}
use Rattle.relax.specs.CallSizes.{all_calls, first_call, goes_forwards, member_at, row_at}

-- the calls of a row that end before an offset, or there
abbrev pub ends_by : (offset : ℕ) → Call → Bool
ends_by offset c = nat_le (c.offset + 8) offset

abbrev pub ended : List Call → (offset : ℕ) → ℕ
ended row offset = prefix_len (ends_by offset) row

abbrev pub no_call : (offset : ℕ) → Call
no_call offset = record { from = 0; offset = offset; reloc = 0; to = 0; target = 0; least = 4 }

-- how far the offset is in the next call
abbrev pub depth_in : List Call → (n offset : ℕ) → ℕ
depth_in row n offset = offset - (slice_index_or row n (no_call offset)).offset

unfoldable pub point_in : List Call → Mark → (offset : ℕ) → Point
point_in row mark offset = record {
  place = mark.start + offset;
  call = mark.first + ended row offset;
  depth = depth_in row (ended row offset) offset;
}

-- the start of a row
abbrev pub start_of : Mark → Point
start_of mark = record { place = mark.start; call = mark.first; depth = 0 }

-- the most bytes of a member, and how many stand before the first of one
abbrev pub whole_room : List Row → (i : ℕ) → ℕ
whole_room ms i = ((member_at ms i).align - 1) + (member_at ms i).size

abbrev pub rooms_before : List Row → (i : ℕ) → ℕ
rooms_before ms i = sum_by (whole_room ms) (range_with_len 0 i)

unfoldable pub mark_at : List Row → List (List Call) → (i : ℕ) → Mark
mark_at ms rows i = record { start = rooms_before ms i + ((member_at ms i).align - 1); first = first_call rows i }

unfoldable pub point_at : List Row → List (List Call) → (i offset : ℕ) → Point
point_at ms rows i offset = point_in (row_at rows i) (mark_at ms rows i) offset

unfoldable pub jump_of : List Row → List (List Call) → Call → Jump
jump_of ms rows c = record {
  low = if goes_forwards c then point_at ms rows c.from c.offset else point_at ms rows c.to c.target;
  high = if goes_forwards c then point_at ms rows c.to c.target else point_at ms rows c.from c.offset;
  forwards = goes_forwards c;
  least = c.least;
}

unfoldable pub jumps_in : List Row → List (List Call) → List Jump
jumps_in ms rows = map (jump_of ms rows) (all_calls rows)

-- calls one after the other from an offset on, up to the end of their section
abbrev pub Follow : (from size : ℕ) → List Call → Type 0
Follow from size [] = Unit {0}
Follow from size (c ∷ cs) = (from ≤ c.offset) × (c.offset + 8 ≤ size) × Follow (c.offset + 8) size cs

-- a call of member i goes from it to another of so many members
pub record IsCallOf (count i : ℕ) (c : Call) : Type 0 where
  pub from : c.from ≡ i
  pub to : c.to < count
  pub least : (c.least ≡ 2) ⊎ (c.least ≡ 4)

pub record AreSoundRows (ms : List Row) (rows : List (List Call)) : Type 0 where
  pub count : length rows ≡ length ms
  pub each : (i : ℕ) → i < length ms → All (IsCallOf (length ms) i) (row_at rows i)
  pub apart : (i : ℕ) → i < length ms → Follow 0 (member_at ms i).size (row_at rows i)
  pub sorted : (i : ℕ) → IsNonDecreasingBy (λ c. c.offset) (row_at rows i)
  pub numbered : (i : ℕ) → IsNonDecreasingBy (λ c. c.reloc) (row_at rows i)

-- numbers of 128 bits hold them
abbrev pub IsLowMark : Mark → Type 0
IsLowMark m = m.start < 2 ^ 99

abbrev pub IsLowJump : Jump → Type 0
IsLowJump j = (j.low.place < 2 ^ 100) × (j.high.place < 2 ^ 100)
