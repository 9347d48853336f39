-- A list without those that repeat the name of the one before.
use Rattle.std.specs.Prelude.{ℕ, Bool, false, Option, Some, None, if◌then◌else◌, List, [], ◌∷◌, ◌++◌}
use Rattle.std.specs.Str.{bytes_eq}

abbrev pub repeats : (before : Option (List ℕ)) → (name : List ℕ) → Bool
repeats None name = false
repeats (Some before) name = bytes_eq before name

-- this one, unless it repeats a name
abbrev pub one_unless : {X : Type 0} → Bool → X → List X
one_unless repeated x = if repeated then [] else x ∷ []

-- of those that have one name and stand side by side, the first
abbrev pub firsts_after : {X : Type 0} → (name : X → List ℕ) → (before : Option (List ℕ)) → List X → List X
firsts_after name before [] = []
firsts_after name before (x ∷ xs) = one_unless (repeats before (name x)) x ++ firsts_after name (Some (name x)) xs
