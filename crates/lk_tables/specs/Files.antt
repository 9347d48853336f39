-- The files of a link by number: the command's objects in the order of the command, each archive followed by its members.
-- A place past the end of a table names something that takes no part in the link.
use Rattle.std.specs.Prelude.{◌≡◌, ℕ, ◌+◌, ◌^◌, ◌<◌, ◌≤◌, ◌&&◌, ◌==◌, not, nat_lt, pos, Bool, false, Ok, if◌then◌else◌, List, [], length, map, take, slice_index_or, sum, count_by, flat_map}
use Rattle.std.specs.List.{range_with_len}
use Rattle.lk_base.specs.declared.abi.TheConstants.{STB_LOCAL, STT_NOTYPE, SHT_NULL, FILE_MAX}
use Rattle.lk_tables.specs.declared.heads.Section.{Section}
use Rattle.lk_tables.specs.declared.heads.Symbol.{Symbol}
use Rattle.lk_tables.specs.declared.heads.Place.TheVariants.{Undef}
use Rattle.lk_tables.specs.Symbols.{is_common}
pub use Rattle.lk_tables.specs.Symbols.{is_section_symbol}
use Rattle.lk_tables.specs.declared.objects.Reloc.{Reloc}
use Rattle.lk_tables.specs.Heads.{HeadView, head_of}
use Rattle.lk_tables.specs.Objects.{ObjectView, object_of}
use Rattle.lk_tables.specs.Names.{no_name, text_of}
pub use Rattle.lk_tables.specs.Relocations.{no_reloc}
use Rattle.lk_tables.specs.Sections.{is_frame, is_written}

-- a file: whether it takes part in the link, whether it is of an archive, its bytes and what they say
pub record File : Type 0 where
  pub live : Bool
  pub member : Bool
  pub bytes : List ℕ
  pub head : HeadView
  pub object : ObjectView

-- what stands past the end of a table: a section that is not written, a local symbol that is not defined, a file that
-- takes no part
abbrev pub no_section : Section
no_section = record { name = no_name; sh_type = SHT_NULL; flags = 0; offset = 0; size = 0; link = 0; info = 0; align = 0; entsize = 0 }

abbrev pub no_symbol : Symbol
no_symbol = record { name = no_name; binding = STB_LOCAL; sort = STT_NOTYPE; place = Undef; value = 0; size = 0 }

abbrev pub no_head : HeadView
no_head = record { flags = 0; sections = []; symtab = 0; symbols = [] }

abbrev pub no_object : ObjectView
no_object = record { groups = []; relocs = [] }

abbrev pub no_file : File
no_file = record { live = false; member = false; bytes = []; head = no_head; object = no_object }

-- by number: a file, its symbols, its sections and their relocations
abbrev pub file_at : List File → ℕ → File
file_at files f = slice_index_or files f no_file

abbrev pub symbol_at : File → ℕ → Symbol
symbol_at file i = slice_index_or file.head.symbols i no_symbol

abbrev pub section_at : File → ℕ → Section
section_at file k = slice_index_or file.head.sections k no_section

abbrev pub relocs_at : File → ℕ → List Reloc
relocs_at file k = slice_index_or file.object.relocs k []

abbrev pub symbol_name : File → ℕ → List ℕ
symbol_name file i = text_of file.bytes (symbol_at file i).name

-- section k is written into the executable; section 0 is none
abbrev pub writes : File → ℕ → Bool
writes file k = nat_lt 0 k && is_written file.bytes (section_at file k)

-- section k has unwind records; section 0 is none
abbrev pub is_frame_at : File → ℕ → Bool
is_frame_at file k = nat_lt 0 k && is_frame file.bytes (section_at file k)

-- other files see the symbol
abbrev pub is_visible : Symbol → Bool
is_visible s = not (s.binding == STB_LOCAL)

-- how many of the first i symbols are COMMON
abbrev pub commons_before : File → ℕ → ℕ
commons_before file i = count_by (λ s. is_common s.place) (take i file.head.symbols)

-- the symbols of all files have numbers, in order of file and symbol
abbrev pub first_symbol : List File → ℕ → ℕ
first_symbol files f = sum (map (λ file. length file.head.symbols) (take f files))

abbrev pub symbol_no : List File → (f i : ℕ) → ℕ
symbol_no files f i = first_symbol files f + i

-- one element for each symbol, by its number
unfoldable pub by_symbol : {X : Type 0} → List File → (ℕ → ℕ → X) → List X
by_symbol files give = flat_map (λ f. map (give f) (range_with_len 0 (length (file_at files f).head.symbols))) (range_with_len 0 (length files))

-- the sections of the live files have numbers in the order of the command: after a file's own, one for each of its COMMON
-- symbols
abbrev pub section_count : File → ℕ
section_count file = if file.live then length file.head.sections + commons_before file (length file.head.symbols) else 0

abbrev pub first_section : List File → ℕ → ℕ
first_section files f = sum (map section_count (take f files))

abbrev pub section_total : List File → ℕ
section_total files = first_section files (length files)

abbrev pub symbol_total : List File → ℕ
symbol_total files = sum (map (λ file. length file.head.symbols) files)

-- one element for each section, by its number
unfoldable pub by_section : {X : Type 0} → List File → (ℕ → ℕ → X) → List X
by_section files give = flat_map (λ f. map (give f) (range_with_len 0 (section_count (file_at files f)))) (range_with_len 0 (length files))

-- the number of section k of file f, and of its COMMON symbol i
abbrev pub section_no : List File → (f k : ℕ) → ℕ
section_no files f k = first_section files f + k

abbrev pub common_no : List File → (f i : ℕ) → ℕ
common_no files f i = first_section files f + length (file_at files f).head.sections + commons_before (file_at files f) i

-- a live file is what its bytes say, and no check of it is broken
pub record IsSound (file : File) : Type 0 where
  pub short : length file.bytes ≤ FILE_MAX
  pub head : head_of file.bytes ≡ Ok file.head
  pub body : object_of file.bytes ≡ Ok file.object

-- so many files, symbols and sections a link has at most
pub record AreFew (files : List File) : Type 0 where
  pub file_count : length files < 2 ^ 24
  pub symbol_count : symbol_total files < 2 ^ 31
  pub section_count_is : section_total files ≤ 2 ^ 28
