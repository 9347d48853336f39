-- Where each section leads, as plain lists.
use Rattle.std.specs.Prelude.{ℕ, List}
use Rattle.link_sections.specs.declared.edges.Edges.{Edges}

-- by section number, the sections that each leads to
abbrev pub ends_of : Edges → List (List ℕ)
ends_of edges = edges.rows
