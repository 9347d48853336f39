-- What holds of where the sections of a link lose bytes, for those who lay them out.
use Rattle.std.specs.Prelude.{◌≡◌, ℕ, ◌+◌, ◌<◌, ◌≤◌, ◌⊎◌, ◌&&◌, nat_lt, Bool, List, [], length, slice_index_or}
use Rattle.std.specs.List.{All}
use Rattle.lk_tables.specs.declared.objects.Reloc.{Reloc}
use Rattle.lk_tables.specs.Binding.{Bindings}
use Rattle.lk_tables.specs.Files.{File, section_total}
use Rattle.lk_tables.specs.Relocations.{is_alignment, place_width, value_len}
use Rattle.lk_tables.specs.Sites.{contents_at, relocs_of}
use Rattle.link_sections.specs.Calls.{IsOwnCall}
use Rattle.link_sections.specs.Cuts.{Cut}
use Rattle.link_sections.specs.InputSections.{input_at}

-- an alignment that has nops; one without any is none
unfoldable pub has_nops : Reloc → Bool
has_nops r = is_alignment r && nat_lt 0 (place_width r)

-- one list of cuts for each section; each cut has bytes and lies in its section, and meets no place that a relocation writes, but for that
-- of its own call
pub record FitSections (files : List File) (sizes : List (List Cut)) : Type 0 where
  pub count : length sizes ≡ section_total files
  pub some : (n : ℕ) → n < section_total files → All (λ c. 0 < c.whole) (slice_index_or sizes n [])
  pub within : (b : Bindings) (n : ℕ) → n < section_total files → All (λ c. c.at + c.whole ≤ (input_at files b n).size) (slice_index_or sizes n [])
  pub clear : (n : ℕ) → n < section_total files → All (λ r. 0 < value_len (contents_at files n) r
      → All (λ c. (c.at + c.whole ≤ r.offset) ⊎ ((r.offset + value_len (contents_at files n) r ≤ c.at) ⊎ IsOwnCall c r)) (slice_index_or sizes n [])) (relocs_of files n)
