-- The distinct elements of a list.
use Rattle.std.specs.Prelude.{ℕ, ◌==◌, Bool, List, length, map, slice_index_or}
use Rattle.std.specs.List.{filter, range_with_len, position_or_len}

module _ {X : Type 0} (same : X → X → Bool) (default : X) (xs : List X) where
  abbrev pub element : ℕ → X
  element i = slice_index_or xs i default

  -- the index of the first element that is the same
  abbrev pub first_same : X → ℕ
  first_same x = position_or_len (λ y. same y x) xs

  -- no earlier element is the same as element i
  abbrev pub is_first : ℕ → Bool
  is_first i = first_same (element i) == i

  -- each element with which no earlier one is the same, in order
  unfoldable pub distinct : List X
  distinct = map element (filter is_first (range_with_len 0 (length xs)))
