-- Lists one after the other in one buffer.
use Rattle.std.specs.Prelude.{◌≡◌, ℕ, ◌+◌, ◌-◌, List, [], ◌∷◌, length, take, drop, flat_map}

-- where each list ends, if the first one starts at `from`
abbrev pub ends : {X : Type 0} → (from : ℕ) → List (List X) → List ℕ
ends from [] = []
ends from (row ∷ rows) = (from + length row) ∷ ends (from + length row) rows

-- a buffer cut at these ends
abbrev pub cut : {X : Type 0} → (from : ℕ) → List ℕ → List X → List (List X)
cut from [] items = []
cut from (end ∷ rest) items = take (end - from) items ∷ cut end rest (drop (end - from) items)

-- the rows of a buffer, whose starts these are, with the end of the last one
abbrev pub rows_in : {X : Type 0} → List ℕ → List X → List (List X)
rows_in firsts items = cut 0 (drop 1 firsts) items

-- the rows stand one after the other, and these are their starts
pub record AreLaid {X : Type 0} (rows : List (List X)) (firsts : List ℕ) (items : List X) : Type 0 where
  pub firsts_are : firsts ≡ 0 ∷ ends 0 rows
  pub items_are : items ≡ flat_map (λ row. row) rows
