-- Names by number: the number of a name is that of the first symbol that has it, in order of file and symbol. So equal names have
-- one number, and unequal names have two.
use Rattle.std.specs.Prelude.{◌≡◌, ℕ, ◌+◌, ◌||◌, Bool, false, Option, Some, None, if◌then◌else◌, List, [], ◌∷◌, length, map, find, flat_map}
use Rattle.std.specs.List.{range_with_len}
use Rattle.std.specs.Str.{bytes_eq}
use Rattle.lk_tables.specs.declared.heads.Symbol.{Symbol}
use Rattle.lk_tables.specs.declared.numbering.NameNumbers.{NameNumbers}
use Rattle.lk_tables.specs.Symbols.{is_common}
use Rattle.lk_tables.specs.Files.{File, file_at, no_object, symbol_at, symbol_name, first_symbol, symbol_no, by_symbol, is_visible}

-- other files see the symbol, or it asks for room under its name
abbrev pub is_named : Symbol → Bool
is_named s = is_visible s || is_common s.place

-- a name, and the number of a symbol that has it
pub record Named : Type 0 where
  pub text : List ℕ
  pub at : ℕ

-- the names that count, in order of file and symbol, whether their files take part in the link or not
unfoldable pub name_at : List File → (f i : ℕ) → List Named
name_at files f i = if is_named (symbol_at (file_at files f) i)
    then record { text = symbol_name (file_at files f) i; at = symbol_no files f i } ∷ [] else []

unfoldable pub names_in : List File → ℕ → List Named
names_in files f = flat_map (name_at files f) (range_with_len 0 (length (file_at files f).head.symbols))

unfoldable pub names : List File → List Named
names files = flat_map (names_in files) (range_with_len 0 (length files))

-- the first of these names that is `text`, by its number
abbrev pub number_or : Option Named → ℕ
number_or None = 0
number_or (Some n) = n.at

unfoldable pub number_of : List Named → List ℕ → ℕ
number_of names text = number_or (find (λ n. bytes_eq n.text text) names)

-- the number of the name of symbol i of file f, if that counts
unfoldable pub name_number : List File → (f i : ℕ) → ℕ
name_number files f i = if is_named (symbol_at (file_at files f) i) then number_of (names files) (symbol_name (file_at files f) i) else 0

-- the files as their heads alone say them
abbrev pub headed_file : File → File
headed_file file = record { live = false; member = file.member; bytes = file.bytes; head = file.head; object = no_object }

abbrev pub heads_alone : List File → List File
heads_alone files = map headed_file files

-- the table is of these files: the number of each file's first symbol, and of all symbols; and by the symbols' numbers, those of
-- their names
pub record NumbersNames (files : List File) (n : NameNumbers) : Type 0 where
  pub starts : n.starts.items ≡ map (first_symbol files) (range_with_len 0 (length files + 1))
  pub numbers : n.numbers.items ≡ by_symbol files (name_number files)
