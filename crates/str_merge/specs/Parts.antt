-- Pieces one after the other, with their numbers.
use Rattle.std.specs.Prelude.{ℕ, ◌+◌, List, [], ◌∷◌, length, map, take, drop, slice_index_or}
use Rattle.link_sections.specs.declared.pieces.Part.{Part}

abbrev pub parts_by : (start : ℕ) → List (List ℕ) → (numbers : List ℕ) → List Part
parts_by start [] numbers = []
parts_by start (piece ∷ pieces) [] = []
parts_by start (piece ∷ pieces) (n ∷ numbers) = record { start = start; piece = n } ∷ parts_by (start + length piece) pieces numbers

-- the lists at these places
abbrev pub lists_at : {X : Type 0} → List (List X) → (places : List ℕ) → List (List X)
lists_at lists places = map (λ i. slice_index_or lists i []) places

-- the parts of several sections of these pieces, of which the numbers stand one section after the other
abbrev pub part_lists : List (List (List ℕ)) → (numbers : List ℕ) → List (List Part)
part_lists [] numbers = []
part_lists (own ∷ lists) numbers = parts_by 0 own (take (length own) numbers) ∷ part_lists lists (drop (length own) numbers)
