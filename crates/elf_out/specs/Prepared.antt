-- What is made of a file before its first block.
use Rattle.std.specs.Prelude.{◌≡◌, ℕ, ◌+◌, ◌<◌, Option, List, length, slice_index}
use Rattle.lk_tables.specs.Binding.{Bindings}
use Rattle.lk_tables.specs.Files.{File}
use Rattle.link_sections.specs.declared.views.View.{View}
use Rattle.link_sections.specs.LaidOut.{LaidOut}
use Rattle.link_sections.specs.Views.{binding_in, files_in, laid_in, leaders_in}
use Rattle.elf_out.specs.declared.prepared.Prepared.{Prepared}
use Rattle.elf_out.specs.Ends.{AreEnds}
use Rattle.elf_out.specs.Executable.{headers_with, names_bytes, table_bytes}
use Rattle.elf_out.specs.Symbols.{SymbolTables}
use Rattle.elf_out.specs.TablesView.{tables_if, tables_in}
use Rattle.reloc_apply.specs.Image.{Piece, byte_at}

abbrev pub headers_in : View → Option SymbolTables → List ℕ
headers_in view tables = headers_with (files_in view) (binding_in view) (leaders_in view) (laid_in view) tables

-- these are the tables at the end of a file, and the offsets, the headers, the names of the sections and the section headers that it has with them
pub record IsPrepared (files : List File) (b : Bindings) (leaders : List (Option ℕ)) (laid : LaidOut) (tables : Option SymbolTables) (prepared : Prepared) : Type 0 where
  pub symbols : tables_if prepared.tables ≡ tables
  pub ends : AreEnds laid tables prepared.ends
  pub headers : prepared.headers.items ≡ headers_with files b leaders laid tables
  pub names : prepared.names.items ≡ names_bytes laid tables
  pub headers_of_sections : prepared.headers_of_sections.items ≡ table_bytes laid tables

-- of the file of a view, with its own tables
abbrev pub IsPreparedFor : View → Prepared → Type 0
IsPreparedFor view prepared = IsPrepared (files_in view) (binding_in view) (leaders_in view) (laid_in view) (tables_in view) prepared

-- a block that starts at the file offset `from` has the bytes of the file that these pieces make
abbrev pub IsFilledFrom : (from : ℕ) → (before after : List ℕ) → List Piece → Type 0
IsFilledFrom from before after pieces =
    (length after ≡ length before) × ((i : ℕ) → i < length before → slice_index after i ≡ byte_at pieces (from + i))

-- and so has the part from `start` on of a window that starts there
abbrev pub IsPartFilled : (from start : ℕ) → (before after : List ℕ) → List Piece → Type 0
IsPartFilled from start before after pieces = (k : ℕ) → k < length before → slice_index after k ≡ byte_at pieces (from + (start + k))
