-- What was read of the groups below a section.
use Rattle.std.specs.Prelude.{ℕ, Bool, true, List, [], ◌∷◌, map, set}
use Rattle.std.specs.List.{filter, range_with_len}
use Rattle.lk_tables.specs.FileHeader.{section_count}
use Rattle.lk_tables.specs.Groups.{is_group, is_taken_before}
use Rattle.lk_tables.specs.Objects.{GroupView, group_of}

-- the groups among the sections below i, in order
abbrev pub groups_before : List ℕ → ℕ → List GroupView
groups_before b i = map (group_of b) (filter (is_group b) (range_with_len 0 i))

-- of each section, whether a group before section i has it
abbrev pub taken_before : List ℕ → ℕ → List Bool
taken_before b i = map (is_taken_before b i) (range_with_len 0 (section_count b))

-- marks, of which those of some sections are set
unfoldable pub with_marked : List Bool → List ℕ → List Bool
with_marked marks [] = marks
with_marked marks (k ∷ ks) = with_marked (set marks k true) ks
