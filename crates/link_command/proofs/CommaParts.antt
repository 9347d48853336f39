-- The parts of a text between its commas, found byte by byte.
use Rattle.std.proofs.Common.{ℕ, List, [], ◌∷◌, ◌++◌}

-- bytes before the first of some parts
abbrev pub joined_to : List ℕ → List (List ℕ) → List (List ℕ)
joined_to front [] = []
joined_to front (part ∷ parts) = (front ++ part) ∷ parts
