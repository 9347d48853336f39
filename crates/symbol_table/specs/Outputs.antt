-- In which output section a section stands (the link editors' rule: an output section has the sections of one name and one class).
use Rattle.std.specs.Prelude.{ℕ, ◌+◌, ◌&&◌, Bool, Option, Some, None, if◌then◌else◌, List, [], ◌∷◌}
use Rattle.lk_tables.specs.InputSections.{InputSection}
use Rattle.lk_tables.specs.OutputNames.{goes_to}
use Rattle.link_sections.specs.LaidOut.{LaidOut, OutputSection}
use Rattle.symbol_table.specs.declared.symbols.TablePlace.{TablePlace}
use Rattle.symbol_table.specs.declared.symbols.TablePlace.TheVariants.{Absolute, Output}

-- the number of the first that passes a test, where the first of all has this number
abbrev pub first_passing : (test : OutputSection → Bool) → (number : ℕ) → List OutputSection → Option ℕ
first_passing test number [] = None
first_passing test number (o ∷ os) = if test o then Some number else first_passing test (number + 1) os

abbrev pub place_or : Option ℕ → TablePlace
place_or None = Absolute
place_or (Some number) = Output number

-- in that output section; in none if it is empty
unfoldable pub place_in : LaidOut → InputSection → TablePlace
place_in laid s = place_or (first_passing (λ o. goes_to s.name s.sh_type s.flags o.class o.name) 1 laid.outputs)
