-- Sections by their numbers in the link.
use Rattle.std.specs.Prelude.{◌≡◌, ℕ, ◌+◌, ◌-◌, ◌<◌, nat_lt, unwrap_or, List, length, find, slice_index_or}
use Rattle.std.specs.List.{range_with_len}
use Rattle.lk_tables.specs.declared.bounds.Spot.{Spot}
use Rattle.lk_tables.specs.declared.objects.Reloc.{Reloc}
use Rattle.lk_tables.specs.declared.section_places.SectionPlace.{SectionPlace}
use Rattle.lk_tables.specs.Binding.{Bindings}
use Rattle.lk_tables.specs.Files.{File, file_at, relocs_at, no_reloc, section_at, section_no, section_count, first_section}
use Rattle.lk_tables.specs.Sections.{contents_of}
use Rattle.lk_tables.specs.Targets.{spot_of}

-- the file of a section's number: the first of which the sections end after it
unfoldable pub owner_of : List File → (section : ℕ) → ℕ
owner_of files section =
    unwrap_or (find (λ f. nat_lt section (first_section files (f + 1))) (range_with_len 0 (length files))) 0

-- its file and its index there
unfoldable pub place_of : List File → (section : ℕ) → SectionPlace
place_of files section =
    record { file = owner_of files section; index = section - first_section files (owner_of files section) }

-- the number is that of this section of this file
pub record IsPlaceOf (files : List File) (section : ℕ) (place : SectionPlace) : Type 0 where
  pub file : place.file < length files
  pub index : place.index < section_count (file_at files place.file)
  pub number : section_no files place.file place.index ≡ section

-- the relocations of a section, by its number
abbrev pub relocs_of : List File → (section : ℕ) → List Reloc
relocs_of files section = relocs_at (file_at files (place_of files section).file) (place_of files section).index

-- the bytes of a section in its file, by its number
abbrev pub contents_at : List File → (section : ℕ) → List ℕ
contents_at files section =
    contents_of (file_at files (place_of files section).file).bytes (section_at (file_at files (place_of files section).file) (place_of files section).index)

-- what relocation number `reloc` of a section stands for
abbrev pub spot_at : List File → Bindings → (section reloc : ℕ) → Spot
spot_at files b section reloc =
    spot_of files b (place_of files section).file (slice_index_or (relocs_of files section) reloc no_reloc)
