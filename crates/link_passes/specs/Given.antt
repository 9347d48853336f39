-- What is linked: the files of a command, or the objects that are generated for it.
use Rattle.std.specs.Prelude.{ℕ, Option, Some, None, List, map}
use Rattle.link_command.specs.Command.{CommandView}
use Rattle.link_gen.specs.Generated.{objects}

-- the names of the inputs: those of the command, or of so many generated objects
abbrev pub names_by : Option ℕ → List (List ℕ) → List (List ℕ)
names_by None names = names
names_by (Some n) names = map (λ o. o.0) (objects n)

abbrev pub names_for : CommandView → List (List ℕ)
names_for asked = names_by asked.generated asked.inputs

-- their bytes, where the files of the command have these
abbrev pub contents_by : Option ℕ → List (List ℕ) → List (List ℕ)
contents_by None given = given
contents_by (Some n) given = map (λ o. o.1) (objects n)

abbrev pub contents_for : CommandView → List (List ℕ) → List (List ℕ)
contents_for asked given = contents_by asked.generated given
