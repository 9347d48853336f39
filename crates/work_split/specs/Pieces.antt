-- How work is cut: a run of places into pieces.
use Rattle.std.specs.Prelude.{◌≡◌, ℕ, ◌+◌, ◌-◌, ◌*◌, ◌<◌, ◌≤◌, List, [], ◌∷◌, sum, take, drop}
use Rattle.std.specs.declared.ops.Range.{Range}

-- the pieces, one after the other and none empty, are together the places from `start` up to `end`
abbrev pub Tiles : (start end : ℕ) → List (Range ℕ) → Type 0
Tiles start end [] = start ≡ end
Tiles start end (p ∷ ps) = (p.start ≡ start) × (start < p.end) × Tiles p.end end ps

-- the piece has so many places, or one more
pub record HasSize (size : ℕ) (p : Range ℕ) : Type 0 where
  pub least : p.start + size ≤ p.end
  pub most : p.end ≤ p.start + size + 1

-- what the places from `start` up to `end` weigh together
abbrev pub weight_of : List ℕ → (start end : ℕ) → ℕ
weight_of weights start end = sum (take (end - start) (drop start weights))

-- without its last place the piece weighs at most an even share of the whole
abbrev pub HasEvenWeight : List ℕ → (workers : ℕ) → Range ℕ → Type 0
HasEvenWeight weights workers p = weight_of weights p.start (p.end - 1) * workers ≤ sum weights
