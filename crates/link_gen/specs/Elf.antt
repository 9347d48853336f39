-- Relocatable objects for RISC-V, each laid out from the list of its sections (System V gABI, "ELF Header", "Section Header", "String
-- Table", "Symbol Table", "Relocation").
use Rattle.std.specs.Prelude.{ℕ, ◌+◌, ◌-◌, List, [], ◌∷◌, ◌++◌, length, replicate, flat_map, map, codes}
use Rattle.lk_base.specs.Arithmetic.{up}
use Rattle.lk_base.specs.declared.abi.TheConstants.{ET_REL, EHDR_SIZE, SHDR_SIZE, SHT_STRTAB}
use Rattle.elf_fields.specs.declared.headers.SectionHeader.{SectionHeader}
use Rattle.elf_fields.specs.declared.symbols.SymbolEntry.{SymbolEntry}
use Rattle.elf_fields.specs.Headers.{file_header, section_header}
use Rattle.elf_fields.specs.Numbers.{long, word}
use Rattle.elf_fields.specs.Symbols.{symbol_entry, zero_ended}

abbrev pub zeros : ℕ → List ℕ
zeros count = replicate count 0

-- a string table: a zero byte, and the names in order
abbrev pub strings : List (List ℕ) → List ℕ
strings names = 0 ∷ flat_map zero_ended names

-- a symbol of value 0
pub record Symbol : Type 0 where
  pub name : List ℕ
  pub info : ℕ
  pub section : ℕ
  pub size : ℕ

-- the entry of a symbol of value 0 whose name starts at `name` of the string table
abbrev pub entry_of : (name info section size : ℕ) → SymbolEntry
entry_of name info section size =
    record { st_name = name; st_info = info; st_other = 0; st_shndx = section; st_value = 0; st_size = size }

-- the entries of symbols whose names stand one after the other, the first at `name`
abbrev pub symbol_entries : (name : ℕ) → List Symbol → List ℕ
symbol_entries name [] = []
symbol_entries name (s ∷ rest) =
    symbol_entry (entry_of name s.info s.section s.size) ++ symbol_entries (name + (length s.name + 1)) rest

-- Elf64_Rela with addend 0
unfoldable pub relocation : (offset kind symbol : ℕ) → List ℕ
relocation offset kind symbol = long offset ++ (word kind ++ (word symbol ++ long 0))

-- a section: what its header says, and its bytes
pub record Section : Type 0 where
  pub name : List ℕ
  pub sh_type : ℕ
  pub flags : ℕ
  pub contents : List ℕ
  pub link : ℕ
  pub info : ℕ
  pub align : ℕ
  pub entry_size : ℕ

-- a section that has strings
abbrev pub string_section : (name contents : List ℕ) → Section
string_section name contents =
    record { name = name; sh_type = SHT_STRTAB; flags = 0; contents = contents; link = 0; info = 0; align = 1; entry_size = 0 }

-- these sections, and after them the one that has the names of all
abbrev pub with_section_names : List Section → List Section
with_section_names sections = sections
    ++ string_section (codes ".shstrtab") (strings (map (λ s. s.name) sections ++ codes ".shstrtab" ∷ [])) ∷ []

-- bytes, and zeros up to a multiple of 8
unfoldable pub padded : List ℕ → List ℕ
padded bytes = bytes ++ zeros (up (length bytes) 8 - length bytes)

-- the sections' bytes one after the other: where the first starts at a multiple of 8, each does
abbrev pub laid : List Section → List ℕ
laid sections = flat_map (λ s. padded s.contents) sections

-- what a section's header says if its name starts at `name` of the section names and its bytes at `offset` of the file
abbrev pub header_of : (name offset : ℕ) → Section → SectionHeader
header_of name offset s = record {
  sh_name = name;
  sh_type = s.sh_type;
  sh_flags = s.flags;
  sh_addr = 0;
  sh_offset = offset;
  sh_size = length s.contents;
  sh_link = s.link;
  sh_info = s.info;
  sh_addralign = s.align;
  sh_entsize = s.entry_size;
}

-- the headers of sections whose names and bytes stand one after the other, the first at `name` and `offset`
abbrev pub section_headers : (name offset : ℕ) → List Section → List ℕ
section_headers name offset [] = []
section_headers name offset (s ∷ rest) = section_header (header_of name offset s)
    ++ section_headers (name + (length s.name + 1)) (offset + length (padded s.contents)) rest

-- the file header of a relocatable object: section headers at `table`, the code's flags, and how many section headers there are, of which
-- the last is that of the section names
unfoldable pub object_header : (table flags count : ℕ) → List ℕ
object_header table flags count = file_header (record {
  e_type = ET_REL;
  e_entry = 0;
  e_phoff = 0;
  e_shoff = table;
  e_flags = flags;
  e_phentsize = 0;
  e_phnum = 0;
  e_shnum = count;
  e_shstrndx = count - 1;
})

-- an object: the file header, the sections' bytes, and the section headers, the first of which is that of no section
unfoldable pub object_of : (flags : ℕ) → List Section → List ℕ
object_of flags sections = object_header (EHDR_SIZE + length (laid sections)) flags (1 + length sections)
    ++ (laid sections ++ (zeros SHDR_SIZE ++ section_headers 1 EHDR_SIZE sections))
