-- Distinct elements by first appearance, if the index of the first equal one is known of each.
use Rattle.std.specs.Prelude.{◌≡◌, ℕ, ◌==◌, ◌<◌, ◌≤◌, ◌^◌, Bool, List, length, map, slice_index}
use Rattle.std.specs.List.{filter, range_with_len}

-- element i is the first of its kind
abbrev pub is_own : List ℕ → ℕ → Bool
is_own numbers i = slice_index numbers i == i

-- the elements among the first n that are the first of their kind
unfoldable pub owns : List ℕ → (n : ℕ) → List ℕ
owns numbers n = filter (is_own numbers) (range_with_len 0 n)

unfoldable pub firsts : List ℕ → List ℕ
firsts numbers = owns numbers (length numbers)

-- how many of them stand before the first equal one
unfoldable pub rank : List ℕ → ℕ → ℕ
rank numbers i = length (owns numbers (slice_index numbers i))

unfoldable pub ranks : List ℕ → List ℕ
ranks numbers = map (rank numbers) (range_with_len 0 (length numbers))

-- the numbers are indexes of first elements, none after its own
pub record IsFirstOf (numbers : List ℕ) : Type 0 where
  pub few : length numbers < 2 ^ 31
  pub before : (i : ℕ) → i < length numbers → slice_index numbers i ≤ i
  pub own : (i : ℕ) → i < length numbers → slice_index numbers (slice_index numbers i) ≡ slice_index numbers i
