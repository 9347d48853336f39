-- The output section to which a section goes, by its name (the link editors' rule; the gABI lists the names under
-- "Special Sections").
use Rattle.std.specs.Prelude.{ℕ, ◌+◌, ◌*◌, ◌-◌, Bool, ◌&&◌, ◌||◌, ◌==◌, nat_lt, nat_le, nat_eq, Option, Some, None, unwrap_or, if◌then◌else◌, List, [], ◌∷◌, length, drop, map, slice_index, codes}
use Rattle.std.specs.Borrow.{Bor}
use Rattle.std.specs.List.{starts_with}
use Rattle.std.specs.Str.{bytes_eq}
use Rattle.lk_tables.specs.declared.classes.Class.{Class}
use Rattle.lk_tables.specs.Classes.{is_in}

-- names that are lent, as texts
abbrev pub texts : List (Bor (List ℕ)) → List (List ℕ)
texts names = map (λ name. name.now) names

-- the names that gather others; of two that fit one name the longer stands first
abbrev pub prefixes : List (List ℕ)
prefixes = codes ".text" ∷ codes ".rodata" ∷ codes ".srodata" ∷ codes ".data.rel.ro" ∷ codes ".data"
    ∷ codes ".bss" ∷ codes ".sdata" ∷ codes ".sbss" ∷ codes ".tdata" ∷ codes ".tbss"
    ∷ codes ".preinit_array" ∷ codes ".init_array" ∷ codes ".fini_array" ∷ codes ".ctors" ∷ codes ".dtors"
    ∷ codes ".gcc_except_table" ∷ []

-- the prefix itself, or the prefix, a dot and more
unfoldable pub is_under : List ℕ → List ℕ → Bool
is_under prefix name = bytes_eq name prefix
    || (starts_with nat_eq name prefix
    && (nat_lt (length prefix) (length name)
    && (slice_index name (length prefix) == 46 && nat_lt (length prefix) (length name - 1))))

-- the first prefix that fits, else the name
unfoldable pub gathered : List (List ℕ) → List ℕ → List ℕ
gathered [] name = name
gathered (prefix ∷ rest) name = if is_under prefix name then prefix else gathered rest name

-- the name of a section's output section; COMMON is the name of the room of COMMON symbols
unfoldable pub output_name : List ℕ → List ℕ
output_name name = if bytes_eq name (codes "COMMON") then codes ".bss" else gathered prefixes name

-- an output section has the sections of one name in one class: whether a section of a name, a type and flags goes to that of a class and a name
abbrev pub goes_to : (name : List ℕ) → (sh_type flags : ℕ) → Class → (output : List ℕ) → Bool
goes_to name sh_type flags class output = is_in class sh_type flags && bytes_eq (output_name name) output

-- functions to call at the start and at the end are made of sections of these names
abbrev pub is_init_or_fini : List ℕ → Bool
is_init_or_fini name = bytes_eq name (codes ".init") || bytes_eq name (codes ".fini")

-- a decimal number after the digits of n, if each byte is a digit
abbrev pub number_of : List ℕ → ℕ → Option ℕ
number_of [] n = Some n
number_of (d ∷ ds) n = if nat_le 48 d && nat_le d 57 then number_of ds (10 * n + (d - 48)) else None

-- a name that may end in a priority, with one to five bytes in its place
abbrev pub is_numbered : List ℕ → Bool
is_numbered name = (is_under (codes ".init_array") name || is_under (codes ".fini_array") name)
    && (nat_le 13 (length name) && nat_le (length name) 17)

-- N for `.init_array.N` and `.fini_array.N` of one to five digits, else 65536
unfoldable pub priority_of : List ℕ → ℕ
priority_of name = if is_numbered name then unwrap_or (number_of (drop 12 name) 0) 65536 else 65536
