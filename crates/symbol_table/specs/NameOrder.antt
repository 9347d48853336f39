-- A list in order of the bytes of names, each name once.
use Rattle.std.specs.Prelude.{ℕ, List, [], ◌∷◌}
use Rattle.std.specs.declared.cmp.Ordering.{Ordering}
use Rattle.std.specs.declared.cmp.Ordering.TheVariants.{Less, Equal, Greater}
use Rattle.std.specs.Ordering.{nat_cmp}
use Rattle.std.specs.Cmp.Lexicographic.{slice_cmp}

-- x before y, in its place, or among those after it, as its name compares with that of y
abbrev pub put_by : {X : Type 0} → Ordering → (x y : X) → (ys among : List X) → List X
put_by Less x y ys among = x ∷ (y ∷ ys)
put_by Equal x y ys among = x ∷ ys
put_by Greater x y ys among = y ∷ among

abbrev pub put_in : {X : Type 0} → (name : X → List ℕ) → X → List X → List X
put_in name x [] = x ∷ []
put_in name x (y ∷ ys) = put_by (slice_cmp nat_cmp (name x) (name y)) x y ys (put_in name x ys)

-- of those that have one name the first stays
unfoldable pub by_name : {X : Type 0} → (name : X → List ℕ) → List X → List X
by_name name [] = []
by_name name (x ∷ xs) = put_in name x (by_name name xs)
