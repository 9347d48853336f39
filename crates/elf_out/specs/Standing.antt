-- What users rely on: each piece of the file stands whole in it, and so do the bytes of each section.
use Rattle.std.specs.Prelude.{◌≡◌, ℕ, ◌+◌, ◌-◌, ◌*◌, ◌<◌, ◌≤◌, true, Option, List, ◌++◌, length, take, drop, All}
use Rattle.lk_base.specs.declared.abi.TheConstants.{EHDR_SIZE, IMAGE_BASE, PHDR_SIZE}
use Rattle.lk_tables.specs.Binding.{Bindings}
use Rattle.lk_tables.specs.Files.{File, section_total}
use Rattle.link_sections.specs.declared.layouts.Bounds.{Bounds}
use Rattle.link_sections.specs.InputSections.{input_at}
use Rattle.link_sections.specs.LaidOut.{LaidOut, start_at}
use Rattle.link_sections.specs.Leaders.{leads}
use Rattle.elf_out.specs.Executable.{FrameContents, end_pieces, frame_pieces, headers_with, pieces_with}
use Rattle.elf_out.specs.Headers.{segments}
use Rattle.elf_out.specs.Symbols.{SymbolTables}
use Rattle.reloc_apply.specs.Image.{Piece, piece}
use Rattle.reloc_apply.specs.Relocated.{has_bits, relocated_pieces, section_bytes}

-- the bytes of a piece stand whole at its place: nothing else is written over them
abbrev pub Stands : (file : List ℕ) → Piece → Type 0
Stands file p = take (length p.bytes) (drop p.at file) ≡ p.bytes

-- a layout ends its headers where the file header and the program headers end, within what the file has
pub record HasHeaderRoom (bounds : Bounds) : Type 0 where
  pub headers_end : bounds.headers_end ≡ IMAGE_BASE + (EHDR_SIZE + PHDR_SIZE * length (segments bounds))
  pub inside : bounds.headers_end ≤ bounds.file_end

-- the unwind records and their table have as many bytes as the layout has room for
pub record FitFrames (bounds : Bounds) (frames : FrameContents) : Type 0 where
  pub header : length frames.header ≡ bounds.frame_header_end - bounds.frame_header
  pub frame : length frames.frame ≡ bounds.frames_end - bounds.frames

abbrev pub FramesStand : LaidOut → FrameContents → (file : List ℕ) → Type 0
FramesStand laid frames file = All (Stands file) (frame_pieces laid frames)

module _ (files : List File) (b : Bindings) (leaders : List (Option ℕ)) (laid : LaidOut) (tables : Option SymbolTables) where
  -- the sections with their relocations done, the pieces of pools and the linker's table; the symbol table and its names; the names of the
  -- sections and the section headers
  abbrev pub pieces_behind : List Piece
  pieces_behind = relocated_pieces files b leaders laid ++ end_pieces laid tables

  abbrev pub PiecesStand : (file : List ℕ) → Type 0
  PiecesStand file = All (Stands file) pieces_behind

  -- the file header and the program headers
  abbrev pub HeadersStand : (file : List ℕ) → Type 0
  HeadersStand file = Stands file (piece 0 (headers_with files b leaders laid tables))

-- all pieces of which the file is made
abbrev pub AllStand : List File → Bindings → List (Option ℕ) → LaidOut → FrameContents → Option SymbolTables → (file : List ℕ) → Type 0
AllStand files b leaders laid frames tables file = All (Stands file) (pieces_with files b leaders laid frames tables)

module _ (files : List File) (b : Bindings) (leaders : List (Option ℕ)) (laid : LaidOut) where
  -- the bytes of section n, with its relocations done, stand whole at its place
  abbrev pub StandsWhole : (file : List ℕ) → (n : ℕ) → Type 0
  StandsWhole file n =
      take (length (section_bytes files b leaders laid n)) (drop (start_at laid n - IMAGE_BASE) file) ≡ section_bytes files b leaders laid n

  -- each section that is its own leader and has bytes in its file stands whole: none is left out
  abbrev pub SectionsStand : (file : List ℕ) → Type 0
  SectionsStand file = (n : ℕ) → n < section_total files → leads leaders n ≡ true → has_bits files b leaders laid n ≡ true
      → 0 < (input_at files b n).size → StandsWhole file n
