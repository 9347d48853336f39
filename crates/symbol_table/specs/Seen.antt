-- Where the sections of a file stand, as far as it is noted by their indexes.
use Rattle.std.specs.Prelude.{◌≡◌, ℕ, Option, None, Some, List, slice_index_or}
use Rattle.lk_tables.specs.Binding.{Bindings}
use Rattle.lk_tables.specs.Files.{File}
use Rattle.lk_tables.specs.InputSections.{input_of}
use Rattle.link_sections.specs.LaidOut.{LaidOut}
use Rattle.symbol_table.specs.declared.symbols.TablePlace.{TablePlace}
use Rattle.symbol_table.specs.Outputs.{place_in}

-- what is noted of an index is where that section of file f stands
abbrev pub AreSeen : List File → Bindings → LaidOut → (f : ℕ) → List (Option TablePlace) → Type 0
AreSeen files b laid f seen = (i : ℕ) (p : TablePlace) → slice_index_or seen i None ≡ Some p → p ≡ place_in laid (input_of files b f i)
