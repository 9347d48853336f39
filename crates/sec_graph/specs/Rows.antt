-- The rows of a file as one part of a list.
use Rattle.std.specs.Prelude.{ℕ, List, [], ◌∷◌}
use Rattle.lk_tables.specs.Binding.{Bindings}
use Rattle.lk_tables.specs.Files.{File}
use Rattle.lk_tables.proofs.ByNumber.{section_row}
use Rattle.sec_graph.specs.Graph.{ends_in}

abbrev pub rows_of : List File → Bindings → (f : ℕ) → List (List (List ℕ))
rows_of files b f = section_row files (ends_in files b) f ∷ []
