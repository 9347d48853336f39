-- The symbols of an executable (System V gABI, "Symbol Table"; RISC-V ELF psABI, "Relocations": S).
use Rattle.std.specs.Prelude.{ℕ, ◌+◌, ◌-◌, ◌-ℤ◌, ◌==◌, ◌&&◌, ◌||◌, Bool, pos, min, Option, if◌then◌else◌, List, [], ◌∷◌, length, flat_map}
use Rattle.std.specs.List.{range_with_len}
use Rattle.lk_base.specs.Arithmetic.{bits_of}
use Rattle.lk_base.specs.declared.abi.TheConstants.{STB_GLOBAL, STB_WEAK, STT_COMMON, STT_NOTYPE, STT_OBJECT, STT_TLS}
use Rattle.lk_tables.specs.declared.bounds.Bound.{Bound}
use Rattle.lk_tables.specs.declared.bounds.Bound.TheVariants.{InSection, Number, Linker, Nobody}
use Rattle.lk_tables.specs.declared.heads.Symbol.{Symbol}
use Rattle.lk_tables.specs.Binding.{Bindings, class_of, is_offer}
use Rattle.lk_tables.specs.Files.{File, file_at, is_visible, section_no, symbol_at, symbol_name, symbol_no}
use Rattle.lk_tables.specs.FixedSymbols.{frame_start_no}
use Rattle.lk_tables.specs.InputSections.{InputSection, input_of}
use Rattle.lk_tables.specs.Ranks.{rank_of}
use Rattle.lk_tables.specs.Symbols.{is_common}
use Rattle.lk_tables.specs.Targets.{bound, rank_at}
use Rattle.link_sections.specs.Addresses.{symbol_address}
use Rattle.link_sections.specs.Cuts.{new_offset}
use Rattle.link_sections.specs.LaidOut.{LaidOut, cuts_at}
use Rattle.link_sections.specs.Leaders.{is_kept, leader_of}
use Rattle.symbol_table.specs.declared.symbols.TablePlace.{TablePlace}
use Rattle.symbol_table.specs.declared.symbols.TablePlace.TheVariants.{Absolute}
use Rattle.symbol_table.specs.NameOrder.{by_name}
use Rattle.symbol_table.specs.Outputs.{place_in}

-- an entry: st_name, the two parts of st_info, st_value, st_size, st_shndx
pub record TableSymbol : Type 0 where
  pub name : List ℕ
  pub binding : ℕ
  pub sort : ℕ
  pub value : ℕ
  pub size : ℕ
  pub section : TablePlace

-- WEAK for a weak offer; a COMMON one is GLOBAL
abbrev pub table_binding : Symbol → ℕ
table_binding s = if class_of s == 2 then STB_WEAK else STB_GLOBAL

-- what was COMMON is an object
abbrev pub table_sort : Symbol → ℕ
table_sort s = if is_common s.place || s.sort == STT_COMMON then STT_OBJECT else s.sort

module _ (files : List File) (b : Bindings) where
  -- symbol i of file f is the one to which its name is bound
  unfoldable pub is_taken : (f i : ℕ) → Bool
  is_taken f i = is_offer (symbol_at (file_at files f) i)
      && rank_at b (symbol_no files f i) == rank_of (class_of (symbol_at (file_at files f) i)) f i

  -- section n, which is one of file f, or the room of a COMMON symbol of it
  abbrev pub section_in : (f n : ℕ) → InputSection
  section_in f n = input_of files b f (n - section_no files f 0)

module _ (leaders : List (Option ℕ)) (laid : LaidOut) where
  -- where an offset of section n stands in the section that is written in its place
  abbrev pub offset_in : (n offset : ℕ) → ℕ
  offset_in n offset = new_offset (cuts_at laid (leader_of leaders n)) offset

  -- of so many bytes from an offset of section n on, up to its end, those that stay
  unfoldable pub bytes_in : (n offset count size : ℕ) → ℕ
  bytes_in n offset count size = offset_in n (min (offset + count) size) - offset_in n offset

module _ (files : List File) (b : Bindings) (kept : List Bool) (leaders : List (Option ℕ)) (laid : LaidOut) where
  -- the address of symbol i of file f, or its number; that of a thread-local symbol counts from the start of thread-local storage
  unfoldable pub table_value : (f i : ℕ) → ℕ
  table_value f i = if (symbol_at (file_at files f) i).sort == STT_TLS
      then bits_of (pos (symbol_address files b leaders laid f i) -ℤ pos laid.bounds.tls_start)
      else symbol_address files b leaders laid f i

  -- a COMMON symbol has all of its room
  unfoldable pub size_in : (f n offset : ℕ) → Symbol → ℕ
  size_in f n offset s = if is_common s.place then (section_in files b f n).size
      else bytes_in leaders laid n offset s.size (section_in files b f n).size

  -- the entry of symbol i of file f, of so many bytes
  abbrev pub own_symbol : (f i size : ℕ) → TablePlace → TableSymbol
  own_symbol f i size place = record {
    name = symbol_name (file_at files f) i;
    binding = table_binding (symbol_at (file_at files f) i);
    sort = table_sort (symbol_at (file_at files f) i);
    value = table_value f i;
    size = size;
    section = place;
  }

  -- and of the linker's own symbol to which it refers
  abbrev pub linker_symbol : (f i : ℕ) → TableSymbol
  linker_symbol f i = record {
    name = symbol_name (file_at files f) i;
    binding = STB_GLOBAL;
    sort = STT_NOTYPE;
    value = symbol_address files b leaders laid f i;
    size = 0;
    section = Absolute;
  }

  -- the entry of a symbol that stands in no section that is written
  abbrev pub absolute : (f i : ℕ) → List TableSymbol
  absolute f i = if is_taken files b f i then own_symbol f i (symbol_at (file_at files f) i).size Absolute ∷ [] else []

  -- the entry of symbol i of file f by what it stands for: its name is that of a symbol of the linker's; or it is taken, and its section
  -- is kept or it stands in none. The start of `.eh_frame` has no name: who stands for it has an entry of its own
  unfoldable pub entry_by : Bound → (f i : ℕ) → List TableSymbol
  entry_by (InSection n offset) f i = if is_taken files b f i && is_kept kept n
      then own_symbol f i (size_in f n offset (symbol_at (file_at files f) i)) (place_in laid (section_in files b f n)) ∷ [] else []
  entry_by (Number n) f i = absolute f i
  entry_by (Linker n) f i = if n == frame_start_no then absolute f i else linker_symbol f i ∷ []
  entry_by Nobody f i = []

  -- a local symbol has none
  unfoldable pub entry_of : (f i : ℕ) → List TableSymbol
  entry_of f i = if is_visible (symbol_at (file_at files f) i) then entry_by (bound files b f i) f i else []

  -- the entries of the files that take part, in order of file and symbol
  unfoldable pub entries_in : (f : ℕ) → List TableSymbol
  entries_in f = if (file_at files f).live
      then flat_map (entry_of f) (range_with_len 0 (length (file_at files f).head.symbols)) else []

  unfoldable pub all_entries : List TableSymbol
  all_entries = flat_map entries_in (range_with_len 0 (length files))

  -- each name once, in order of its bytes: several symbols may refer to one of the linker's
  unfoldable pub table_symbols : List TableSymbol
  table_symbols = by_name (λ (t : TableSymbol). t.name) all_entries
