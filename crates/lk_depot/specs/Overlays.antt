-- A map by name, made from lists of named things.
use Rattle.std.specs.Prelude.{ℕ, List, [], ◌∷◌, Option, bytes_eq, position, String, string_bytes, Vec}
use Rattle.std.specs.Global.{Global}
use Rattle.std.specs.FinMap.{insert, empty}
use Rattle.lk_depot.specs.Files.{Named, Files, Kinds}
use Rattle.lk_depot.specs.Held.{Held}

-- The map with each thing of the list put under its name. Of two that share a name the first counts.
abbrev pub overlaid : {A X : Type 0} → (A → List ℕ) → (A → X) → List A → Named X → Named X
overlaid name value [] names = names
overlaid name value (a ∷ list) names = insert (overlaid name value list names) (name a) (value a)

-- The first of the list that has this name.
abbrev pub place_of : {A : Type 0} → (A → List ℕ) → List A → List ℕ → Option ℕ
place_of name list sought = position (λ a. bytes_eq (name a) sought) list

-- The name and the bytes of an input.
abbrev pub input_name : String Global × Vec ℕ Global → List ℕ
input_name input = string_bytes input.0

abbrev pub input_bytes : String Global × Vec ℕ Global → List ℕ
input_bytes input = input.1.items

-- The inputs by name.
abbrev pub files_from : List (String Global × Vec ℕ Global) → Files
files_from inputs = overlaid input_name input_bytes inputs empty

-- The outputs over the inputs.
abbrev pub files_with : List Held → Files → Files
files_with outputs inputs = overlaid (λ held. held.name) (λ held. held.bytes) outputs inputs

-- The kinds of the outputs.
abbrev pub kinds_of : List Held → Kinds
kinds_of outputs = overlaid (λ held. held.name) (λ held. held.kind) outputs empty
