-- The sections that garbage collection keeps whatever refers to them: the entry's, those of names that the command asks for, functions to call at the start and at the end
-- and notes (System V gABI, "Sections", "Special Sections"), and those flagged SHF_GNU_RETAIN.
use Rattle.std.specs.Prelude.{ℕ, Bool, not, ◌&&◌, ◌||◌, ◌==◌, bit_and, if◌then◌else◌, List, [], ◌∷◌, ◌++◌, length, flat_map}
use Rattle.std.specs.List.{range_with_len}
use Rattle.lk_base.specs.declared.abi.TheConstants.{SHF_GNU_RETAIN, SHT_FINI_ARRAY, SHT_INIT_ARRAY, SHT_NOTE, SHT_PREINIT_ARRAY}
use Rattle.lk_tables.specs.Binding.{Bindings}
use Rattle.lk_tables.specs.Files.{File, file_at, section_count, section_no}
use Rattle.lk_tables.specs.Targets.{entry_bound}
use Rattle.lk_tables.specs.OutputNames.{is_init_or_fini}
use Rattle.link_sections.specs.InputSections.{InputSection, input_of, may_stay}
use Rattle.asked_names.specs.AskedNames.{named_sections, section_bound}

-- functions to call, and notes
abbrev pub is_root_type : (sh_type : ℕ) → Bool
is_root_type t = t == SHT_INIT_ARRAY || t == SHT_FINI_ARRAY || t == SHT_PREINIT_ARRAY || t == SHT_NOTE

abbrev pub is_retained : (flags : ℕ) → Bool
is_retained flags = not (bit_and flags SHF_GNU_RETAIN == 0)

-- by its header
unfoldable pub is_root_input : InputSection → Bool
is_root_input s = is_root_type s.sh_type || is_init_or_fini s.name || is_retained s.flags

module _ (files : List File) (b : Bindings) where
  -- section k of file f is kept by its header, if it may be
  unfoldable pub is_root : (f k : ℕ) → Bool
  is_root f k = may_stay files b f k && is_root_input (input_of files b f k)

  -- the number of section k of file f, and those of all of file f, that are such
  abbrev pub root_at : (f k : ℕ) → List ℕ
  root_at f k = if is_root f k then section_no files f k ∷ [] else []

  unfoldable pub roots_in : ℕ → List ℕ
  roots_in f = flat_map (root_at f) (range_with_len 0 (section_count (file_at files f)))

  -- the entry's section first, if it stands in one; then those of the names that the command asks for; then the others in order of number
  unfoldable pub roots : (undefined : List (List ℕ)) → List ℕ
  roots undefined = section_bound (entry_bound files b) ++ named_sections files b undefined ++ flat_map roots_in (range_with_len 0 (length files))
