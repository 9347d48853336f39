-- The stable order of a list by a number: equal ones stay as they stood.
use Rattle.std.specs.Prelude.{ℕ, nat_lt, if◌then◌else◌, List, [], ◌∷◌}

-- before the first that is not less
abbrev pub put_in : {X : Type 0} → (X → ℕ) → X → List X → List X
put_in key x [] = x ∷ []
put_in key x (y ∷ ys) = if nat_lt (key y) (key x) then y ∷ put_in key x ys else x ∷ (y ∷ ys)

unfoldable pub stable_order : {X : Type 0} → (X → ℕ) → List X → List X
stable_order key [] = []
stable_order key (x ∷ xs) = put_in key x (stable_order key xs)
