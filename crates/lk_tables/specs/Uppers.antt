-- The upper parts, to which lower parts belong (RISC-V ELF psABI, "Relocations"), by their sections' numbers.
use Rattle.std.specs.Prelude.{◌≡◌, ℕ, ◌+◌, ◌≤◌, List, length, take, filter, flat_map, slice_index}
use Rattle.lk_base.specs.RelocKinds.{is_upper}
use Rattle.lk_tables.specs.declared.objects.Reloc.{Reloc}
use Rattle.lk_tables.specs.declared.uppers.Uppers.{Uppers}
use Rattle.lk_tables.specs.Files.{File, file_at, relocs_at, by_section}

-- the upper parts of section k of file f
abbrev pub uppers_at : List File → (f k : ℕ) → List Reloc
uppers_at files f k = filter (λ r. is_upper r.kind) (relocs_at (file_at files f) k)

-- one list for each section number
abbrev pub section_uppers : List File → List (List Reloc)
section_uppers files = by_section files (uppers_at files)

-- lists one after the other
abbrev pub joined : {X : Type 0} → List (List X) → List X
joined lists = flat_map (λ list. list) lists

-- they have these lists, one after the other, and where each starts among all
pub record AreListed (lists : List (List Reloc)) (uppers : Uppers) : Type 0 where
  pub all : uppers.list.items ≡ joined lists
  pub count : length uppers.firsts.items ≡ length lists + 1
  pub firsts : (n : ℕ) → n ≤ length lists → slice_index uppers.firsts.items n ≡ length (joined (take n lists))
