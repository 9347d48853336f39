-- The symbols of an object and the checks of their entries (System V gABI, "Symbol Table").
use Rattle.std.specs.Prelude.{◌≡◌, ◌≢◌, ℕ, ◌+◌, ◌*◌, ◌/◌, ◌%◌, ◌<◌, ◌≤◌, Bool, true, false, not, ◌&&◌, ◌||◌, ◌==◌, nat_lt, Option, Some, None, is_some, unwrap_or, if◌then◌else◌, List, [], ◌∷◌, length}
use Rattle.lk_base.specs.RelocKinds.{is_among}
use Rattle.lk_base.specs.declared.abi.TheConstants.{SHN_UNDEF, SHN_LORESERVE, SHN_ABS, SHN_COMMON, SHN_XINDEX, STB_LOCAL, STB_GLOBAL, STB_WEAK, STB_GNU_UNIQUE, STT_NOTYPE, STT_OBJECT, STT_FUNC, STT_SECTION, STT_FILE, STT_COMMON, STT_TLS, STT_GNU_IFUNC, SYM_SIZE, WORD_SIZE}
use Rattle.lk_base.specs.declared.kinds.TheConstants.{BAD_SYMBOL, BAD_NAME}
use Rattle.lk_tables.specs.declared.entries.SymbolEntry.{SymbolEntry}
use Rattle.lk_tables.specs.declared.heads.Symbol.{Symbol}
use Rattle.lk_tables.specs.declared.heads.Place.{Place}
use Rattle.lk_tables.specs.declared.heads.Place.TheVariants.{Undef, Absolute, Common, Within}
use Rattle.lk_tables.specs.Checks.{Check, ◌says◌, flaw_at}
use Rattle.lk_tables.specs.Entries.{entry_at}
use Rattle.lk_tables.specs.FileHeader.{header, section_count}
use Rattle.lk_tables.specs.Names.{name_len, span, no_name}
use Rattle.lk_tables.specs.Numbers.{word_at}
use Rattle.lk_tables.specs.Sections.{symtab_before, index_table_before, written_at, section_of}

-- the symbol table's section, or 0
abbrev pub symtab_of : List ℕ → ℕ
symtab_of b = symtab_before b (section_count b)

-- how many entries it has
unfoldable pub symbol_count : List ℕ → ℕ
symbol_count b = if symtab_of b == 0 then 0 else (header b (symtab_of b)).size / SYM_SIZE

-- where entry i stands, and what it says
abbrev pub symbol_place : List ℕ → ℕ → ℕ
symbol_place b i = (header b (symtab_of b)).offset + SYM_SIZE * i

abbrev pub entry : List ℕ → ℕ → SymbolEntry
entry b i = entry_at b (symbol_place b i)

-- the section with the indexes that do not fit into symbols' entries, or 0
abbrev pub index_table_of : List ℕ → ℕ
index_table_of b = index_table_before b (section_count b)

-- where its word of symbol i stands, and what it says; without that section 0
abbrev pub index_place : List ℕ → ℕ → ℕ
index_place b i = (header b (index_table_of b)).offset + WORD_SIZE * i

unfoldable pub index_word : List ℕ → ℕ → ℕ
index_word b i = if index_table_of b == 0 then 0 else word_at b (index_place b i)

-- the symbol string table
abbrev pub strings_from : List ℕ → ℕ
strings_from b = (header b (header b (symtab_of b)).link).offset

abbrev pub strings_size : List ℕ → ℕ
strings_size b = (header b (header b (symtab_of b)).link).size

-- how long the name is that starts at `at` of it
abbrev pub symbol_name_len : List ℕ → ℕ → Option ℕ
symbol_name_len b at = name_len b (strings_from b) (strings_size b) at

-- what is known of the symbol table, if there is one and all sections have passed: it and its names lie in the file
pub record IsReadable (b : List ℕ) : Type 0 where
  pub low : 0 < symtab_of b
  pub high : symtab_of b < section_count b
  pub link_high : (header b (symtab_of b)).link < section_count b
  pub within : (header b (symtab_of b)).offset + (header b (symtab_of b)).size ≤ length b
  pub count : symbol_count b ≡ (header b (symtab_of b)).size / SYM_SIZE
  pub strings_within : strings_from b + strings_size b ≤ length b
  pub indexes_within : index_table_of b ≢ 0 → (header b (index_table_of b)).offset + WORD_SIZE * symbol_count b ≤ length b

-- a section of a file that has `count` sections
abbrev pub within : (count index : ℕ) → Option Place
within count index = if nat_lt 0 index && nat_lt index count then Some (Within index) else None

-- where a symbol of this st_shndx stands in a file of `count` sections; `word` is the index that did not fit. Any other
-- reserved index names nothing, and neither does one that is no section's
unfoldable pub place_from : (count shndx word : ℕ) → Option Place
place_from count shndx word =
    if shndx == SHN_UNDEF then Some Undef
    else (if shndx == SHN_ABS then Some Absolute
    else (if shndx == SHN_COMMON then Some Common
    else (if shndx == SHN_XINDEX then within count word
    else (if nat_lt shndx SHN_LORESERVE then within count shndx
    else None))))

-- where symbol i stands
unfoldable pub place_at : List ℕ → ℕ → Option Place
place_at b i = place_from (section_count b) (entry b i).shndx (index_word b i)

-- what entry i says; st_info has the binding in its high four bits, the type in the low
unfoldable pub symbol_from : List ℕ → ℕ → Symbol
symbol_from b i = record {
  name = span (strings_from b + (entry b i).name) (unwrap_or (symbol_name_len b (entry b i).name) 0);
  binding = (entry b i).info / 16;
  sort = (entry b i).info % 16;
  place = unwrap_or (place_at b i) Undef;
  value = (entry b i).value;
  size = (entry b i).size;
}

-- what symbol 0 counts as, whatever its entry says
abbrev pub null_symbol : (value size : ℕ) → Symbol
null_symbol value size = record { name = no_name; binding = STB_LOCAL; sort = STT_NOTYPE; place = Undef; value = value; size = size }

-- symbol i
unfoldable pub symbol_of : List ℕ → ℕ → Symbol
symbol_of b i = if i == 0 then null_symbol (entry b i).value (entry b i).size else symbol_from b i

abbrev pub is_undef : Place → Bool
is_undef Undef = true
is_undef Absolute = false
is_undef Common = false
is_undef (Within k) = false

abbrev pub is_common : Place → Bool
is_common Undef = false
is_common Absolute = false
is_common Common = true
is_common (Within k) = false

-- a SECTION symbol stands for its section: a LOCAL symbol of type SECTION
abbrev pub is_section_symbol : Symbol → Bool
is_section_symbol s = s.binding == STB_LOCAL && s.sort == STT_SECTION

abbrev pub bindings : List ℕ
bindings = STB_LOCAL ∷ STB_GLOBAL ∷ STB_WEAK ∷ STB_GNU_UNIQUE ∷ []

abbrev pub sorts : List ℕ
sorts = STT_NOTYPE ∷ STT_OBJECT ∷ STT_FUNC ∷ STT_SECTION ∷ STT_FILE ∷ STT_COMMON ∷ STT_TLS ∷ STT_GNU_IFUNC ∷ []

-- a binding or a type that is not read
unfoldable pub is_strange : Symbol → Bool
is_strange s = not (is_among bindings s.binding) || not (is_among sorts s.sort)

-- local symbols, and no others, stand below sh_info
unfoldable pub is_misplaced : (locals i binding : ℕ) → Bool
is_misplaced locals i binding = (nat_lt i locals && not (binding == STB_LOCAL)) || (not (nat_lt i locals) && binding == STB_LOCAL)

-- a local symbol among the others, one that is COMMON, or another symbol among the local ones or without a name
unfoldable pub is_bad_local : (locals i : ℕ) → Symbol → Bool
is_bad_local locals i s =
    is_misplaced locals i s.binding
    || ((s.binding == STB_LOCAL && is_common s.place)
    || (not (s.binding == STB_LOCAL) && s.name.len == 0))

-- a COMMON symbol of type TLS
unfoldable pub is_bad_common : Symbol → Bool
is_bad_common s = is_common s.place && s.sort == STT_TLS

-- a value past the end of the written section in which it stands
unfoldable pub is_past_end : List ℕ → Place → (value : ℕ) → Bool
is_past_end b Undef value = false
is_past_end b Absolute value = false
is_past_end b Common value = false
is_past_end b (Within k) value = written_at b k && nat_lt (section_of b k).size value

-- symbol i cannot be
unfoldable pub is_bad_symbol : List ℕ → (i : ℕ) → Symbol → Bool
is_bad_symbol b i s =
    is_strange s
    || (is_bad_local (header b (symtab_of b)).info i s
    || (is_bad_common s
    || is_past_end b s.place s.value))

-- the checks of symbol i: its name ends, its index names something, and it can be
unfoldable pub symbol_checks : List ℕ → ℕ → List Check
symbol_checks b i = if i == 0 then [] else
    (not (is_some (symbol_name_len b (entry b i).name)) says flaw_at BAD_NAME (symtab_of b) (symbol_place b i))
    ∷ (not (is_some (place_at b i)) says flaw_at BAD_SYMBOL (symtab_of b) (symbol_place b i))
    ∷ (is_bad_symbol b i (symbol_from b i) says flaw_at BAD_SYMBOL (symtab_of b) (symbol_place b i))
    ∷ []
