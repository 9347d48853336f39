-- What was read of the relocation sections below one.
use Rattle.std.specs.Prelude.{ℕ, Bool, List, map, find}
use Rattle.std.specs.List.{range_with_len}
use Rattle.lk_tables.specs.declared.objects.Reloc.{Reloc}
use Rattle.lk_tables.specs.Bodies.{relocates, is_relocated_before}
use Rattle.lk_tables.specs.FileHeader.{section_count}
use Rattle.lk_tables.specs.Objects.{relocs_in}

-- of each section, whether a section below i has its relocations, and these
abbrev pub marks_before : List ℕ → ℕ → List Bool
marks_before b i = map (is_relocated_before b i) (range_with_len 0 (section_count b))

abbrev pub list_before : List ℕ → (i k : ℕ) → List Reloc
list_before b i k = relocs_in b (find (relocates b k) (range_with_len 0 i))

abbrev pub lists_before : List ℕ → ℕ → List (List Reloc)
lists_before b i = map (list_before b i) (range_with_len 0 (section_count b))
