-- What is reached from some places, each place having ends: the least set with the roots and with the ends of its places.
use Rattle.std.specs.Prelude.{◌≡◌, ℕ, ◌+◌, Bool, true, false, List, [], ◌∷◌, length, slice_index_or, slice_set, Contains}

abbrev pub mark : List Bool → ℕ → Bool
mark seen f = slice_index_or seen f false

-- how many places have no mark
abbrev pub unmarked : List Bool → ℕ
unmarked [] = 0
unmarked (true ∷ seen) = unmarked seen
unmarked (false ∷ seen) = 1 + unmarked seen

-- marks, and the places of a list marked too
abbrev pub with_marked : List Bool → List ℕ → List Bool
with_marked marks [] = marks
with_marked marks (n ∷ ns) = with_marked (slice_set marks n true) ns

abbrev pub ends_at : List (List ℕ) → ℕ → List ℕ
ends_at ends f = slice_index_or ends f []

-- a set with the roots and with the ends of its places
pub record IsClosed (roots : List ℕ) (ends : List (List ℕ)) (s : ℕ → Bool) : Type 0 where
  pub rooted : (f : ℕ) → Contains roots f → s f ≡ true
  pub followed : (f g : ℕ) → s f ≡ true → Contains (ends_at ends f) g → s g ≡ true

-- a place is in each such set
abbrev pub IsReached : (roots : List ℕ) → (ends : List (List ℕ)) → (f : ℕ) → Type 0
IsReached roots ends f = (s : ℕ → Bool) → IsClosed roots ends s → s f ≡ true

-- the marks are such a set, and within each such set
pub record IsReach (roots : List ℕ) (ends : List (List ℕ)) (seen : List Bool) : Type 0 where
  pub wide : length seen ≡ length ends
  pub closed : IsClosed roots ends (mark seen)
  pub least : (s : ℕ → Bool) → IsClosed roots ends s → (f : ℕ) → mark seen f ≡ true → s f ≡ true
