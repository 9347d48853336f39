-- The linker's global offset table (RISC-V ELF psABI, "Global Offset Table"): one entry for each symbol and use, of one word or two.
use Rattle.std.specs.Prelude.{ℕ, ◌+◌, ◌<◌, ◌≡◌, ◌==◌, ◌&&◌, Bool, true, false, Option, Some, None, is_some, option_map, if◌then◌else◌, List, [], ◌∷◌, ◌++◌, find, length, slice_index_or}
use Rattle.std.specs.List.{AllPairs, sum_by}
use Rattle.lk_base.specs.declared.abi.TheConstants.{R_RISCV_GOT_HI20, R_RISCV_TLS_GD_HI20, R_RISCV_TLS_GOT_HI20, STB_LOCAL}
use Rattle.lk_tables.specs.Files.{File, file_at, symbol_at, symbol_no}
use Rattle.lk_tables.specs.NameNumbers.{heads_alone, name_number}
use Rattle.link_sections.specs.declared.got.GotEntry.{GotEntry}
use Rattle.link_sections.specs.declared.got.GotUse.{GotUse}
use Rattle.link_sections.specs.declared.got.GotUse.TheVariants.{Address, ThreadOffset, GeneralDynamic}

-- what a relocation of a kind has in the table: the address of its symbol; its offset from the thread pointer; the module and the offset in it
unfoldable pub use_of : (kind : ℕ) → Option GotUse
use_of kind = if kind == R_RISCV_GOT_HI20 then Some Address
    else (if kind == R_RISCV_TLS_GOT_HI20 then Some ThreadOffset
    else (if kind == R_RISCV_TLS_GD_HI20 then Some GeneralDynamic else None))

abbrev pub words_of : GotUse → ℕ
words_of Address = 1
words_of ThreadOffset = 1
words_of GeneralDynamic = 2

abbrev pub same_use : GotUse → GotUse → Bool
same_use Address Address = true
same_use ThreadOffset ThreadOffset = true
same_use GeneralDynamic GeneralDynamic = true
same_use _ _ = false

-- a local symbol has a key of its own, its number; others share that of their name, which is the number of the first symbol that has it
unfoldable pub key_of : List File → (f i : ℕ) → ℕ
key_of files f i = if (symbol_at (file_at files f) i).binding == STB_LOCAL then symbol_no files f i else name_number (heads_alone files) f i

-- the entry of a key and a use
abbrev pub is_entry : (key : ℕ) → GotUse → GotEntry → Bool
is_entry key usage e = e.key == key && same_use e.usage usage

unfoldable pub entry_of : List GotEntry → (key : ℕ) → GotUse → Option GotEntry
entry_of entries key usage = find (is_entry key usage) entries

-- the number of its first word
abbrev pub word_of : List GotEntry → (key : ℕ) → GotUse → Option ℕ
word_of entries key usage = option_map (λ (e : GotEntry). e.word) (entry_of entries key usage)

-- how many words the table has
unfoldable pub word_count : List GotEntry → ℕ
word_count entries = sum_by (λ (e : GotEntry). words_of e.usage) entries

-- the entries once a use is added: one more, after all words, for a key and a use that none of them has
unfoldable pub with_use : List GotEntry → (key : ℕ) → GotUse → (file symbol : ℕ) → List GotEntry
with_use entries key usage file symbol = if is_some (entry_of entries key usage) then entries
    else entries ++ record { key = key; usage = usage; file = file; symbol = symbol; word = word_count entries } ∷ []

-- a key and a use as one, and whether two are equal
abbrev pub eq_keys : ℕ × GotUse → ℕ × GotUse → Bool
eq_keys a b = a.0 == b.0 && same_use a.1 b.1

-- no two entries have one key and one use
abbrev pub AreUnlike : List GotEntry → Type 0
AreUnlike entries = AllPairs (λ (e : GotEntry) (later : GotEntry). is_entry e.key e.usage later ≡ false) entries

-- the words of each entry follow those of the one before
pub record AreNumbered (entries : List GotEntry) : Type 0 where
  pub first : (d : GotEntry) → 0 < length entries → (slice_index_or entries 0 d).word ≡ 0
  pub next : (i : ℕ) (d : GotEntry) → i + 1 < length entries →
      (slice_index_or entries (i + 1) d).word ≡ (slice_index_or entries i d).word + words_of (slice_index_or entries i d).usage
