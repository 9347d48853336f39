-- The file header of a relocatable object for 64-bit RISC-V, and its section table (System V gABI, "ELF Header",
-- "Sections"; RISC-V ELF psABI, "File Header").
use Rattle.std.specs.Prelude.{ℕ, ◌+◌, ◌*◌, Bool, not, ◌&&◌, ◌==◌, nat_lt, nat_eq, bit_and, if◌then◌else◌, List, [], ◌∷◌, ◌++◌, length, slice_index}
use Rattle.std.specs.List.{starts_with}
use Rattle.lk_base.specs.declared.abi.TheConstants.{ELFCLASS64, ELFDATA2LSB, EV_CURRENT, ET_REL, EM_RISCV, EF_RISCV_RVE, EHDR_SIZE, SHDR_SIZE, SECTIONS_MAX, SHN_XINDEX, SHT_STRTAB}
use Rattle.lk_base.specs.declared.defects.Flaw.{Flaw}
use Rattle.lk_base.specs.declared.kinds.DefectKind.{DefectKind}
use Rattle.lk_base.specs.declared.kinds.TheConstants.{NOT_OBJECT, BAD_HEADER, OUTSIDE, BAD_SECTION, LIMIT}
use Rattle.lk_tables.specs.declared.ehdr.TheConstants.{EI_CLASS, EI_DATA, EI_VERSION, E_TYPE, E_MACHINE, E_VERSION, E_SHOFF, E_FLAGS, E_SHENTSIZE, E_SHNUM, E_SHSTRNDX}
use Rattle.lk_tables.specs.declared.entries.SectionHeader.{SectionHeader}
use Rattle.lk_tables.specs.Checks.{Check, ◌says◌, flaw_at}
use Rattle.lk_tables.specs.Entries.{header_at}
use Rattle.lk_tables.specs.Numbers.{half_at, word_at, xword_at}

-- fields of the file header
abbrev pub e_shoff : List ℕ → ℕ
e_shoff b = xword_at b E_SHOFF

abbrev pub e_flags : List ℕ → ℕ
e_flags b = word_at b E_FLAGS

abbrev pub e_shnum : List ℕ → ℕ
e_shnum b = half_at b E_SHNUM

abbrev pub e_shstrndx : List ℕ → ℕ
e_shstrndx b = half_at b E_SHSTRNDX

-- where header i of the section table stands, and what it says
abbrev pub place_of : List ℕ → ℕ → ℕ
place_of b i = e_shoff b + SHDR_SIZE * i

abbrev pub header : List ℕ → ℕ → SectionHeader
header b i = header_at b (place_of b i)

-- how many section headers there are, and which names the section name string table: numbers that the file header has
-- no room for stand in section 0
unfoldable pub section_count : List ℕ → ℕ
section_count b = if e_shnum b == 0 then (header b 0).size else e_shnum b

unfoldable pub names_index : List ℕ → ℕ
names_index b = if e_shstrndx b == SHN_XINDEX then (header b 0).link else e_shstrndx b

-- `size` bytes at `from` end past the file
abbrev pub ends_past : (file from size : ℕ) → Bool
ends_past file from size = nat_lt file (from + size)

-- a string table of the file; index 0 names no section
abbrev pub is_strtab : List ℕ → ℕ → Bool
is_strtab b i = nat_lt 0 i && (nat_lt i (section_count b) && (header b i).sh_type == SHT_STRTAB)

-- a flaw of the file header
abbrev pub at_file : DefectKind → ℕ → Flaw
at_file kind place = flaw_at kind 0 place

-- "ELF Identification": the magic number, and a whole file header
unfoldable pub identity_checks : List ℕ → List Check
identity_checks b =
    (not (starts_with nat_eq b (0x7f ∷ 0x45 ∷ 0x4c ∷ 0x46 ∷ [])) says at_file NOT_OBJECT 0)
    ∷ (nat_lt (length b) EHDR_SIZE says at_file BAD_HEADER (length b))
    ∷ []

-- "ELF Identification", "ELF Header": 64 bits, the lowest byte first, version 1, relocatable, RISC-V, not RVE, with
-- section headers of their one size
unfoldable pub form_checks : List ℕ → List Check
form_checks b =
    (not (slice_index b EI_CLASS == ELFCLASS64) says at_file BAD_HEADER EI_CLASS)
    ∷ (not (slice_index b EI_DATA == ELFDATA2LSB) says at_file BAD_HEADER EI_DATA)
    ∷ (not (slice_index b EI_VERSION == EV_CURRENT) says at_file BAD_HEADER EI_VERSION)
    ∷ (not (half_at b E_TYPE == ET_REL) says at_file BAD_HEADER E_TYPE)
    ∷ (not (half_at b E_MACHINE == EM_RISCV) says at_file BAD_HEADER E_MACHINE)
    ∷ (not (word_at b E_VERSION == EV_CURRENT) says at_file BAD_HEADER E_VERSION)
    ∷ (not (bit_and (e_flags b) EF_RISCV_RVE == 0) says at_file BAD_HEADER E_FLAGS)
    ∷ (e_shoff b == 0 says at_file BAD_HEADER E_SHOFF)
    ∷ (not (half_at b E_SHENTSIZE == SHDR_SIZE) says at_file BAD_HEADER E_SHENTSIZE)
    ∷ []

-- "ELF Header", e_shnum and e_shstrndx: a section table in the file (of which section 0 is asked for the count, if e_shnum
-- has none), of which one string table in the file has the names
unfoldable pub table_checks : List ℕ → List Check
table_checks b =
    (e_shnum b == 0 && ends_past (length b) (e_shoff b) SHDR_SIZE says at_file OUTSIDE E_SHOFF)
    ∷ (section_count b == 0 says at_file BAD_SECTION E_SHNUM)
    ∷ (nat_lt SECTIONS_MAX (section_count b) says at_file LIMIT E_SHNUM)
    ∷ (ends_past (length b) (e_shoff b) (SHDR_SIZE * section_count b) says at_file OUTSIDE E_SHOFF)
    ∷ (not (is_strtab b (names_index b)) says at_file BAD_SECTION E_SHSTRNDX)
    ∷ (ends_past (length b) (header b (names_index b)).offset (header b (names_index b)).size says at_file OUTSIDE E_SHSTRNDX)
    ∷ []

unfoldable pub header_checks : List ℕ → List Check
header_checks b = identity_checks b ++ (form_checks b ++ table_checks b)
