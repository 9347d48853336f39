-- The executable (System V gABI, "Program Loading"): the headers, the unwind records and the sections at their places, and after them the symbol
-- table with the names of its symbols, the names of the sections and the section headers.
use Rattle.std.specs.Prelude.{ℕ, ◌+◌, ◌-◌, ◌*◌, Bool, Option, Some, None, if◌then◌else◌, List, [], ◌∷◌, ◌++◌, length, flat_map}
use Rattle.std.specs.List.{range_with_len}
use Rattle.lk_base.specs.Arithmetic.{up}
use Rattle.lk_base.specs.declared.abi.TheConstants.{IMAGE_BASE, SHDR_SIZE}
use Rattle.lk_tables.specs.Binding.{Bindings}
use Rattle.lk_tables.specs.Files.{File, file_at}
use Rattle.link_sections.specs.Addresses.{entry_address}
use Rattle.link_sections.specs.LaidOut.{LaidOut}
use Rattle.elf_out.specs.Symbols.{SymbolTables, symbol_tables}
use Rattle.symbol_table.specs.SymbolTable.{table_symbols}
use Rattle.elf_out.specs.Headers.{executable_header, program_headers, section_names, section_headers, segments, kept_flags}
use Rattle.reloc_apply.specs.Image.{Piece, piece, image}
use Rattle.reloc_apply.specs.Relocated.{relocated_pieces}

-- the flags of the live files
abbrev pub flags_at : List File → ℕ → List ℕ
flags_at files f = if (file_at files f).live then (file_at files f).head.flags ∷ [] else []

unfoldable pub live_flags : List File → List ℕ
live_flags files = flat_map (flags_at files) (range_with_len 0 (length files))

-- the symbol table and the names of its symbols, unless they are left out
unfoldable pub own_tables : List File → Bindings → (kept : List Bool) → (strip : Bool) → (leaders : List (Option ℕ)) → LaidOut → Option SymbolTables
own_tables files b kept strip leaders laid = if strip then None else Some (symbol_tables (table_symbols files b kept leaders laid))

-- where they end if they start at an offset; or at a multiple of 8 after it, if they are there; and how many they are
abbrev pub tables_end : (at : ℕ) → Option SymbolTables → ℕ
tables_end at None = at
tables_end at (Some t) = at + length t.symbols + length t.strings

abbrev pub after_tables : (offset : ℕ) → Option SymbolTables → ℕ
after_tables offset None = offset
after_tables offset (Some t) = tables_end (up offset 8) (Some t)

abbrev pub table_count : Option SymbolTables → ℕ
table_count None = 0
table_count (Some t) = 2

-- what `.eh_frame_hdr` and `.eh_frame` hold (LSB Core, "Exception Frames")
pub record FrameContents : Type 0 where
  pub header : List ℕ
  pub frame : List ℕ

abbrev pub frame_pieces : LaidOut → FrameContents → List Piece
frame_pieces laid frames = piece (laid.bounds.frame_header - IMAGE_BASE) frames.header ∷ piece (laid.bounds.frames - IMAGE_BASE) frames.frame ∷ []

-- the symbol table at a file offset, and the names after it
abbrev pub table_pieces : (at : ℕ) → Option SymbolTables → List Piece
table_pieces at None = []
table_pieces at (Some t) = piece at t.symbols ∷ piece (at + length t.symbols) t.strings ∷ []

module _ (laid : LaidOut) (tables : Option SymbolTables) where
  -- file offsets: the symbol table stands at a multiple of 8 after the last byte of a section; the names of the sections follow the names of
  -- the symbols, or that last byte if there is no symbol table; the section headers follow at a multiple of 8
  abbrev pub symbols_offset : ℕ
  symbols_offset = up (laid.bounds.file_end - IMAGE_BASE) 8

  abbrev pub names_offset : ℕ
  names_offset = after_tables (laid.bounds.file_end - IMAGE_BASE) tables

  abbrev pub names_bytes : List ℕ
  names_bytes = section_names laid.outputs tables

  abbrev pub table_offset : ℕ
  table_offset = up (names_offset + length names_bytes) 8

  abbrev pub table_bytes : List ℕ
  table_bytes = section_headers laid.outputs tables symbols_offset names_offset

  -- one header for each output section, for the symbol table and its names, for the null section and for the names of the sections
  abbrev pub header_count : ℕ
  header_count = length laid.outputs + table_count tables + 2

  -- the file ends with the section headers
  unfoldable pub file_length : ℕ
  file_length = table_offset + SHDR_SIZE * header_count

  -- the symbol table, the names and the section headers
  abbrev pub end_pieces : List Piece
  end_pieces = table_pieces symbols_offset tables ++ (piece names_offset names_bytes ∷ piece table_offset table_bytes ∷ [])

module _ (files : List File) (b : Bindings) (leaders : List (Option ℕ)) (laid : LaidOut) (tables : Option SymbolTables) where
  -- with these tables at its end: the file header and the program headers
  unfoldable pub headers_with : List ℕ
  headers_with =
      executable_header (entry_address files b leaders laid) (table_offset laid tables) (kept_flags (live_flags files)) (length (segments laid.bounds))
      (header_count laid tables)
      ++ program_headers laid.bounds

module _ (files : List File) (b : Bindings) (leaders : List (Option ℕ)) (laid : LaidOut) (frames : FrameContents) (tables : Option SymbolTables) where
  unfoldable pub pieces_with : List Piece
  pieces_with = piece 0 (headers_with files b leaders laid tables) ∷ frame_pieces laid frames ++ (relocated_pieces files b leaders laid ++ end_pieces laid tables)

  unfoldable pub file_with : List ℕ
  file_with = image pieces_with (file_length laid tables)

module _ (files : List File) (b : Bindings) (kept : List Bool) (strip : Bool) (leaders : List (Option ℕ)) (laid : LaidOut) where
  unfoldable pub headers : List ℕ
  headers = headers_with files b leaders laid (own_tables files b kept strip leaders laid)

  unfoldable pub executable : FrameContents → List ℕ
  executable frames = file_with files b leaders laid frames (own_tables files b kept strip leaders laid)
