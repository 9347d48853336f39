-- Tables of the places of sections.
use Rattle.std.specs.Prelude.{◌≡◌, ℕ, ◌+◌, ◌-◌, ◌<◌, ◌≤◌, ◌==◌, Option, Some, None, List, length, slice_index, if◌then◌else◌}

-- a table of n numbers by section number: of each of the first k of some sections its place and one more, and of others 0
pub record IsPlaceTable (n : ℕ) (sections : List ℕ) (k : ℕ) (table : List ℕ) : Type 0 where
  pub wide : length table ≡ n
  pub each : (i : ℕ) → i < k → slice_index table (slice_index sections i) ≡ i + 1
  pub low : (section : ℕ) → slice_index table section ≤ k
  pub others : (section : ℕ) → 1 ≤ slice_index table section → slice_index sections (slice_index table section - 1) ≡ section

-- the place that a number of a table stands for: none for 0, else one less than the number
unfoldable pub place_in_table : ℕ → Option ℕ
place_in_table number = if number == 0 then None else Some (number - 1)
