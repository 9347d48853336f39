-- What follows the last byte of a section goes up, to the end of the file.
use Rattle.std.proofs.Common.{◌≡◌, ℕ, ◌+◌, ◌-◌, ◌*◌, ◌≤◌, Option, Some, None, List, [], ◌∷◌, ◌++◌, length, length-append, refl, arith}
use Rattle.lk_base.specs.Arithmetic.{up}
use Rattle.lk_base.specs.declared.abi.TheConstants.{IMAGE_BASE, SHDR_SIZE}
use Rattle.link_sections.specs.LaidOut.{LaidOut, OutputSection}
use Rattle.elf_fields.specs.declared.headers.SectionHeader.{SectionHeader}
use Rattle.elf_fields.specs.Headers.{section_header}
use Rattle.elf_fields.proofs.Lengths.{section_header_long}
use Rattle.elf_out.specs.Executable.{after_tables, end_pieces, file_length, header_count, names_bytes, names_offset, symbols_offset, table_bytes, table_count, table_offset, table_pieces}
use Rattle.elf_out.specs.Headers.{null_section, output_headers, output_names, output_section, section_headers, section_names, strings_section, symbols_section, table_headers, table_names}
use Rattle.elf_out.specs.Symbols.{SymbolTables}
use Rattle.elf_out.proofs.OneByOne.{GoUp}
use Rattle.reloc_apply.specs.Image.{Piece, piece}

-- how many bytes the section headers have
outputs_long : (name : ℕ) (os : List OutputSection) → length (output_headers name os) ≡ 64 * length os
outputs_long name [] = refl
outputs_long name (o ∷ os) =
    let next : ℕ = name + length o.name + 1 in
    omega (arith, length-append (section_header (output_section name o)) (output_headers next os), section_header_long (output_section name o), outputs_long next os)

tables_long : (name at strings : ℕ) (tables : Option SymbolTables) → length (table_headers name at strings tables) ≡ 64 * table_count tables
tables_long name at strings None = refl
tables_long name at strings (Some t) =
    let first : SectionHeader = symbols_section name at (length t.symbols) strings in
    let second : SectionHeader = strings_section (name + 8) (at + length t.symbols) (length t.strings) in
    omega (arith, length-append (section_header first) (section_header second), section_header_long first, section_header_long second)

all_long : (outputs : List OutputSection) (tables : Option SymbolTables) (at offset : ℕ)
    → length (section_headers outputs tables at offset) ≡ 64 * (length outputs + table_count tables + 2)
unfolding section_headers
all_long outputs tables at offset =
    let name : ℕ = 1 + length (output_names outputs) in
    let own : SectionHeader = strings_section (name + length (table_names tables)) offset (length (section_names outputs tables)) in
    let front : List ℕ = section_header null_section in
    let middle : List ℕ = output_headers 1 outputs in
    let more : List ℕ = table_headers name at (length outputs + 2) tables in
    let last : List ℕ = section_header own in
    omega (
      arith,
      length-append front (middle ++ (more ++ last)),
      length-append middle (more ++ last),
      length-append more last,
      section_header_long null_section,
      outputs_long 1 outputs,
      tables_long name at (length outputs + 2) tables,
      section_header_long own,
    )

up_least : (x : ℕ) → x ≤ up x 8
unfolding up
up_least x = omega arith

-- the symbol table and its names, if they are there, and what follows
tables_up : (last to : ℕ) (tables : Option SymbolTables) (rest : List Piece) → GoUp (after_tables last tables) to rest
    → GoUp last to (table_pieces (up last 8) tables ++ rest)
tables_up last to None rest follows = follows
tables_up last to (Some t) rest follows = (up_least last, (omega arith, follows))

pub ends_up : (laid : LaidOut) (tables : Option SymbolTables) → GoUp (laid.bounds.file_end - IMAGE_BASE) (file_length laid tables) (end_pieces laid tables)
unfolding file_length
ends_up laid tables =
    let long = all_long laid.outputs tables (symbols_offset laid tables) (names_offset laid tables) in
    tables_up (laid.bounds.file_end - IMAGE_BASE) (table_offset laid tables + SHDR_SIZE * header_count laid tables) tables
    (piece (names_offset laid tables) (names_bytes laid tables) ∷ piece (table_offset laid tables) (table_bytes laid tables) ∷ [])
    (omega arith, (up_least (names_offset laid tables + length (names_bytes laid tables)), omega (arith, long)))
