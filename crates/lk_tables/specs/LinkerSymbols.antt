-- Symbols that the linker defines where no file does (the conventions of GNU ld's scripts, which start files and C libraries name; RISC-V ELF
-- psABI, "Global Pointer"), by number: first those of fixed names, then the start of `.eh_frame`, which has none, then two for each section
-- whose name is an identifier of C.
use Rattle.std.specs.Prelude.{ℕ, ◌+◌, ◌*◌, ◌-◌, ◌/◌, ◌%◌, ◌==◌, ◌&&◌, ◌||◌, nat_le, nat_lt, Bool, Option, Some, None, option_map, if◌then◌else◌, List, [], ◌∷◌, codes, length, take, drop, find, slice_index, slice_index_or}
use Rattle.std.specs.List.{filter, list_all, position_or_len, range_with_len}
use Rattle.std.specs.Str.{bytes_eq}
use Rattle.std.specs.Borrow.{Bor}
use Rattle.lk_tables.specs.Binding.{Bindings}
use Rattle.lk_tables.specs.Files.{File, section_total}
pub use Rattle.lk_tables.specs.FixedSymbols.{LinkerSymbol, fixed_count, fixed_if, frame_start_no, named_count, names}
unfoldable pub use Rattle.lk_tables.specs.FixedSymbols.{edge_of, fixed_no, fixed_symbols}
use Rattle.lk_tables.specs.InputSections.{input_at, may_stay_at}

-- A to Z, a to z and `_`; 0 to 9
abbrev pub is_letter : ℕ → Bool
is_letter c = (nat_le 65 c && nat_le c 90) || ((nat_le 97 c && nat_le c 122) || c == 95)

abbrev pub is_digit : ℕ → Bool
is_digit c = nat_le 48 c && nat_le c 57

abbrev pub is_letter_or_digit : ℕ → Bool
is_letter_or_digit c = is_letter c || is_digit c

-- an identifier of C: letters and digits, a letter first; the linker has symbols for the start and the end of a section of such a name
unfoldable pub is_c_identifier : List ℕ → Bool
is_c_identifier name = is_letter (slice_index name 0) && list_all is_letter_or_digit name

unfoldable pub start_prefix : List ℕ
start_prefix = codes "__start_"

unfoldable pub stop_prefix : List ℕ
stop_prefix = codes "__stop_"

-- the identifier of C that follows a prefix
unfoldable pub identifier_after : (prefix name : List ℕ) → Option (List ℕ)
identifier_after prefix name = if bytes_eq (take (length prefix) name) prefix && is_c_identifier (drop (length prefix) name)
    then Some (drop (length prefix) name) else None

-- a lent text
abbrev pub text_if : Option (Bor (List ℕ)) → Option (List ℕ)
text_if text = option_map (λ t. t.now) text

-- the symbols of section n: its name's start, and its end
abbrev pub start_no : (n : ℕ) → ℕ
start_no n = fixed_count + 2 * n

abbrev pub stop_no : (n : ℕ) → ℕ
stop_no n = fixed_count + 2 * n + 1

-- of a number past these, the section, and whether it is the end
abbrev pub is_bound_no : (number : ℕ) → Bool
is_bound_no number = nat_le fixed_count number

abbrev pub bound_section : (number : ℕ) → ℕ
bound_section number = (number - fixed_count) / 2

abbrev pub bound_if : (number : ℕ) → Option ℕ
bound_if number = if is_bound_no number then Some (bound_section number) else None

abbrev pub is_stop_no : (number : ℕ) → Bool
is_stop_no number = (number - fixed_count) % 2 == 1

-- the first of two that is there
abbrev pub either : Option ℕ → Option ℕ → Option ℕ
either (Some n) other = Some n
either None other = other

module _ (files : List File) (b : Bindings) where
  -- section n may be kept, and has this name
  unfoldable pub is_named : (text : List ℕ) → (n : ℕ) → Bool
  is_named text n = may_stay_at files b n && bytes_eq (input_at files b n).name text

  -- all such sections, and the first
  unfoldable pub all_named : (text : List ℕ) → List ℕ
  all_named text = filter (is_named text) (range_with_len 0 (section_total files))

  unfoldable pub first_named : (text : List ℕ) → Option ℕ
  first_named text = find (is_named text) (range_with_len 0 (section_total files))

  abbrev pub first_if : Option (List ℕ) → Option ℕ
  first_if None = None
  first_if (Some text) = first_named text

  -- the linker's symbol of a name that names the start or the end of a section of the link; the first such section gives the number
  unfoldable pub bound_no : (name : List ℕ) → Option ℕ
  bound_no name = either (option_map (λ n. start_no n) (first_if (identifier_after start_prefix name)))
      (option_map (λ n. stop_no n) (first_if (identifier_after stop_prefix name)))

  -- the linker's symbol of a name, if there is one
  unfoldable pub linker_no : (name : List ℕ) → Option ℕ
  linker_no name = either (fixed_if name) (bound_no name)

  -- the sections whose start or end a symbol of the linker's is
  unfoldable pub bound_sections : (number : ℕ) → List ℕ
  bound_sections number = if is_bound_no number then all_named (input_at files b (bound_section number)).name else []
