-- Symbols of the linker's that are no section's (the conventions of GNU ld's scripts, which start files and C libraries name; RISC-V ELF psABI,
-- "Global Pointer"), by number: first those of fixed names, then the start of `.eh_frame`, which has none.
use Rattle.std.specs.Prelude.{ℕ, nat_lt, Option, Some, None, if◌then◌else◌, List, [], ◌∷◌, codes, slice_index_or}
use Rattle.std.specs.List.{position_or_len}
use Rattle.std.specs.Str.{bytes_eq}
use Rattle.lk_tables.specs.declared.linker_symbols.Edge.{Edge}
use Rattle.lk_tables.specs.declared.linker_symbols.Edge.TheVariants.{ImageStart, CodeEnd, BitsEnd, NobitsEnd, Table, GlobalPointer, PreinitStart, PreinitEnd, InitStart, InitEnd, FiniStart, FiniEnd, FrameStart}

-- a fixed name and what its address is
pub record LinkerSymbol : Type 0 where
  pub name : List ℕ
  pub edge : Edge

abbrev pub names : List ℕ → Edge → LinkerSymbol
names name edge = record { name = name; edge = edge }

-- each by its place in this list
unfoldable pub fixed_symbols : List LinkerSymbol
fixed_symbols =
    names (codes "__ehdr_start") ImageStart
    ∷ names (codes "__rela_iplt_start") ImageStart
    ∷ names (codes "__rela_iplt_end") ImageStart
    ∷ names (codes "_etext") CodeEnd
    ∷ names (codes "etext") CodeEnd
    ∷ names (codes "_edata") BitsEnd
    ∷ names (codes "edata") BitsEnd
    ∷ names (codes "__bss_start") BitsEnd
    ∷ names (codes "_end") NobitsEnd
    ∷ names (codes "end") NobitsEnd
    ∷ names (codes "_GLOBAL_OFFSET_TABLE_") Table
    ∷ names (codes "__global_pointer$") GlobalPointer
    ∷ names (codes "__preinit_array_start") PreinitStart
    ∷ names (codes "__preinit_array_end") PreinitEnd
    ∷ names (codes "__init_array_start") InitStart
    ∷ names (codes "__init_array_end") InitEnd
    ∷ names (codes "__fini_array_start") FiniStart
    ∷ names (codes "__fini_array_end") FiniEnd
    ∷ []

abbrev pub named_count : ℕ
named_count = 18

-- the start of `.eh_frame`, which no name finds
abbrev pub frame_start_no : ℕ
frame_start_no = 18

-- how many come before those of sections
abbrev pub fixed_count : ℕ
fixed_count = 19

unfoldable pub fixed_no : (name : List ℕ) → ℕ
fixed_no name = position_or_len (λ (s : LinkerSymbol). bytes_eq s.name name) fixed_symbols

abbrev pub fixed_if : (name : List ℕ) → Option ℕ
fixed_if name = if nat_lt (fixed_no name) named_count then Some (fixed_no name) else None

-- what the address of a number below the count is
unfoldable pub edge_of : (number : ℕ) → Edge
edge_of number = (slice_index_or fixed_symbols number (names [] FrameStart)).edge
