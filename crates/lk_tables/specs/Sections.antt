-- The sections of an object and the checks of their headers (System V gABI, "Section Header Table", "Special Sections").
use Rattle.std.specs.Prelude.{ℕ, ◌+◌, ◌*◌, ◌/◌, ◌%◌, Bool, not, ◌&&◌, ◌||◌, ◌==◌, nat_lt, bit_and, Option, is_some, unwrap_or, if◌then◌else◌, List, [], ◌∷◌, length, take, drop, find, codes}
use Rattle.std.specs.List.{range_with_len}
use Rattle.std.specs.Str.{bytes_eq}
use Rattle.lk_base.specs.RelocKinds.{is_among}
use Rattle.lk_base.specs.declared.abi.TheConstants.{SHT_NULL, SHT_PROGBITS, SHT_SYMTAB, SHT_NOTE, SHT_NOBITS, SHT_INIT_ARRAY, SHT_FINI_ARRAY, SHT_PREINIT_ARRAY, SHT_SYMTAB_SHNDX, SHF_ALLOC, SHF_EXCLUDE, SYM_SIZE, WORD_SIZE}
use Rattle.lk_base.specs.declared.kinds.TheConstants.{OUTSIDE, BAD_SECTION, BAD_NAME}
use Rattle.lk_tables.specs.declared.entries.SectionHeader.{SectionHeader}
use Rattle.lk_tables.specs.declared.heads.Section.{Section}
use Rattle.lk_tables.specs.declared.spans.Span.{Span}
use Rattle.lk_tables.specs.Checks.{Check, ◌says◌, flaw_at}
use Rattle.lk_tables.specs.FileHeader.{header, place_of, names_index, section_count, ends_past, is_strtab}
use Rattle.lk_tables.specs.Names.{name_len, span, no_name, text_of}

-- the section name string table
abbrev pub names_from : List ℕ → ℕ
names_from b = (header b (names_index b)).offset

abbrev pub names_size : List ℕ → ℕ
names_size b = (header b (names_index b)).size

-- how long the name is that starts at `at` of it
abbrev pub section_name_len : List ℕ → ℕ → Option ℕ
section_name_len b at = name_len b (names_from b) (names_size b) at

abbrev pub with_name : SectionHeader → Span → Section
with_name h name = record {
  name = name;
  sh_type = h.sh_type;
  flags = h.flags;
  offset = h.offset;
  size = h.size;
  link = h.link;
  info = h.info;
  align = h.align;
  entsize = h.entsize;
}

-- section 0 (SHN_UNDEF) and the sections of type NULL have no name and no checks
abbrev pub is_null : ℕ → ℕ → Bool
is_null i sh_type = i == 0 || sh_type == SHT_NULL

-- section i
unfoldable pub section_of : List ℕ → ℕ → Section
section_of b i =
    if is_null i (header b i).sh_type then with_name (header b i) no_name
    else with_name (header b i) (span (names_from b + (header b i).name) (unwrap_or (section_name_len b (header b i).name) 0))

-- the bytes of a section that has bytes in the file end past it
unfoldable pub is_outside : List ℕ → SectionHeader → Bool
is_outside b h = not (h.sh_type == SHT_NOBITS) && ends_past (length b) h.offset h.size

-- section k has this type; section 0 has none
abbrev pub has_type : List ℕ → (sh_type k : ℕ) → Bool
has_type b sh_type k = nat_lt 0 k && (header b k).sh_type == sh_type

-- the first section of a type among the sections below i, or 0
unfoldable pub first_of : List ℕ → (sh_type i : ℕ) → ℕ
first_of b sh_type i = unwrap_or (find (has_type b sh_type) (range_with_len 0 i)) 0

-- the first symbol table, and the first table of section indexes, among the sections below i, or 0
abbrev pub symtab_before : List ℕ → ℕ → ℕ
symtab_before b i = first_of b SHT_SYMTAB i

abbrev pub index_table_before : List ℕ → ℕ → ℕ
index_table_before b i = first_of b SHT_SYMTAB_SHNDX i

-- a second symbol table, or one with entries of another size or whose names are in no string table, or with more local
-- symbols than entries
unfoldable pub is_bad_symtab : List ℕ → (earlier : ℕ) → SectionHeader → Bool
is_bad_symtab b earlier h =
    h.sh_type == SHT_SYMTAB
    && (not (earlier == 0)
    || (not (h.entsize == SYM_SIZE)
    || (not (h.size % SYM_SIZE == 0)
    || (not (is_strtab b h.link)
    || nat_lt (h.size / SYM_SIZE) h.info))))

-- a symbol table of the file; index 0 names no section
abbrev pub is_symtab : List ℕ → ℕ → Bool
is_symtab b i = nat_lt 0 i && (nat_lt i (section_count b) && (header b i).sh_type == SHT_SYMTAB)

-- a second table of section indexes, or one with entries of another size, of no symbol table, or with more or fewer
-- entries than that symbol table
unfoldable pub is_bad_index_table : List ℕ → (earlier : ℕ) → SectionHeader → Bool
is_bad_index_table b earlier h =
    h.sh_type == SHT_SYMTAB_SHNDX
    && (not (earlier == 0)
    || (not (h.entsize == WORD_SIZE)
    || (not (is_symtab b h.link)
    || not (h.size == WORD_SIZE * ((header b h.link).size / SYM_SIZE)))))

-- the checks of section i
unfoldable pub section_checks : List ℕ → ℕ → List Check
section_checks b i = if is_null i (header b i).sh_type then [] else
    (is_outside b (header b i) says flaw_at OUTSIDE i (place_of b i))
    ∷ (not (is_some (section_name_len b (header b i).name)) says flaw_at BAD_NAME i (place_of b i))
    ∷ (is_bad_symtab b (symtab_before b i) (header b i) says flaw_at BAD_SECTION i (place_of b i))
    ∷ (is_bad_index_table b (index_table_before b i) (header b i) says flaw_at BAD_SECTION i (place_of b i))
    ∷ []

-- the types of sections that may be written
abbrev pub loaded_types : List ℕ
loaded_types = SHT_PROGBITS ∷ SHT_NOTE ∷ SHT_NOBITS ∷ SHT_INIT_ARRAY ∷ SHT_FINI_ARRAY ∷ SHT_PREINIT_ARRAY ∷ []

-- in memory while the program runs
unfoldable pub is_loaded : Section → Bool
is_loaded s = not (bit_and s.flags SHF_ALLOC == 0) && bit_and s.flags SHF_EXCLUDE == 0

-- a section whose bytes go into the executable; of `.eh_frame` single records may
unfoldable pub is_written : List ℕ → Section → Bool
is_written b s = is_loaded s && (is_among loaded_types s.sh_type && not (bytes_eq (text_of b s.name) (codes ".eh_frame")))

-- it has unwind records (LSB Core, "Exception Frames")
unfoldable pub is_frame : List ℕ → Section → Bool
is_frame b s = is_loaded s && (s.sh_type == SHT_PROGBITS && bytes_eq (text_of b s.name) (codes ".eh_frame"))

-- its bytes and relocations are read
unfoldable pub is_read : List ℕ → Section → Bool
is_read b s = is_written b s || is_frame b s

-- section k is written; section 0 is none
unfoldable pub written_at : List ℕ → ℕ → Bool
written_at b k = nat_lt 0 k && is_written b (section_of b k)

-- the relocations of section k are read
unfoldable pub takes_relocs : List ℕ → ℕ → Bool
takes_relocs b k = nat_lt 0 k && is_read b (section_of b k)

-- the bytes of a section in the file
abbrev pub contents_of : List ℕ → Section → List ℕ
contents_of b s = take s.size (drop s.offset b)
