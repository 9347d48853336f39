-- Where walks from section to section lead: as the edges do, and from each member of a group to all of them (System V gABI, "Section Groups").
use Rattle.std.specs.Prelude.{ℕ, List, ◌++◌, map, flat_map}
use Rattle.lk_tables.specs.Binding.{Bindings}
use Rattle.lk_tables.specs.Files.{File, by_section, file_at, section_no}
use Rattle.lk_tables.specs.Objects.{GroupView}
use Rattle.sec_graph.specs.declared.pairs.Pair.{Pair}
use Rattle.sec_graph.specs.Graph.{ends_in, member_at, pair, pairs_from}

-- from each of some sections to each of others
abbrev pub square : (from to : List ℕ) → List Pair
square from to = flat_map (λ m. map (pair m) to) from

module _ (files : List File) (b : Bindings) where
  -- from each member of a group to all
  abbrev pub square_in : (f : ℕ) → GroupView → List Pair
  square_in f group = square (flat_map (member_at files b f) group.members) (flat_map (member_at files b f) group.members)

  abbrev pub mates_in : ℕ → List Pair
  mates_in f = flat_map (square_in f) (file_at files f).object.groups

  -- where a walk leads from section k of file f
  unfoldable pub walk_ends : (f k : ℕ) → List ℕ
  walk_ends f k = ends_in files b f k ++ map (λ p. p.to) (pairs_from (section_no files f k) (mates_in f))

  unfoldable pub walk_edges : List (List ℕ)
  walk_edges = by_section files walk_ends
