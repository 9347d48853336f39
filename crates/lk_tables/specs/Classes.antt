-- The classes of output sections, by sh_flags and sh_type (System V gABI, "Sections"), and the ranks in a class.
use Rattle.std.specs.Prelude.{ℕ, ◌+◌, Bool, not, ◌&&◌, ◌==◌, bit_and, if◌then◌else◌, List, [], ◌∷◌, codes}
use Rattle.std.specs.List.{position_or_len}
use Rattle.std.specs.Str.{bytes_eq}
use Rattle.lk_base.specs.declared.abi.TheConstants.{SHF_EXECINSTR, SHF_TLS, SHF_WRITE, SHT_NOBITS, SHT_NOTE}
use Rattle.lk_tables.specs.declared.classes.Class.{Class}
use Rattle.lk_tables.specs.declared.classes.Class.TheVariants.{R, Rx, TlsBits, TlsNobits, RwBits, RwNobits}

abbrev pub may_write : (flags : ℕ) → Bool
may_write flags = not (bit_and flags SHF_WRITE == 0)

abbrev pub may_execute : (flags : ℕ) → Bool
may_execute flags = not (bit_and flags SHF_EXECINSTR == 0)

abbrev pub is_nobits : (sh_type : ℕ) → Bool
is_nobits sh_type = sh_type == SHT_NOBITS

abbrev pub is_tls : (flags : ℕ) → Bool
is_tls flags = not (bit_and flags SHF_TLS == 0)

-- the class of a section: SHF_TLS decides first, then SHF_WRITE, then SHF_EXECINSTR; SHT_NOBITS makes a class of its own among the
-- thread-local and among the written
unfoldable pub is_in : Class → (sh_type flags : ℕ) → Bool
is_in R sh_type flags = not (is_tls flags) && not (may_write flags) && not (may_execute flags)
is_in Rx sh_type flags = not (is_tls flags) && not (may_write flags) && may_execute flags
is_in TlsBits sh_type flags = is_tls flags && not (is_nobits sh_type)
is_in TlsNobits sh_type flags = is_tls flags && is_nobits sh_type
is_in RwBits sh_type flags = not (is_tls flags) && may_write flags && not (is_nobits sh_type)
is_in RwNobits sh_type flags = not (is_tls flags) && may_write flags && is_nobits sh_type

-- the place of a class in the order in which they stand
abbrev pub class_no : Class → ℕ
class_no R = 0
class_no Rx = 1
class_no TlsBits = 2
class_no TlsNobits = 3
class_no RwBits = 4
class_no RwNobits = 5

-- the place of a name in a table, or the table's length
abbrev pub place_of : List (List ℕ) → List ℕ → ℕ
place_of table name = position_or_len (λ known. bytes_eq known name) table

-- among sections that are read only, notes stand first: the type is that of the output section's first member
abbrev pub rank_of_read : (sh_type : ℕ) → List ℕ → ℕ
rank_of_read sh_type name = if sh_type == SHT_NOTE then 0
    else 1 + place_of (codes ".rodata" ∷ codes ".srodata" ∷ codes ".gcc_except_table" ∷ []) name

-- among those that are written, with bytes, `.sdata` stands last
abbrev pub rank_of_bits : List ℕ → ℕ
rank_of_bits name = if bytes_eq name (codes ".sdata") then 9 else place_of
    (codes ".preinit_array" ∷ codes ".init_array" ∷ codes ".fini_array" ∷ codes ".ctors" ∷ codes ".dtors"
    ∷ codes ".data.rel.ro" ∷ codes ".got" ∷ codes ".data" ∷ []) name

-- the rank of an output section in its class: a table's names in order, then others; thread-local ones are all alike
unfoldable pub output_rank : Class → (sh_type : ℕ) → List ℕ → ℕ
output_rank R sh_type name = rank_of_read sh_type name
output_rank Rx sh_type name = place_of (codes ".init" ∷ codes ".text" ∷ codes ".fini" ∷ []) name
output_rank TlsBits sh_type name = 0
output_rank TlsNobits sh_type name = 0
output_rank RwBits sh_type name = rank_of_bits name
output_rank RwNobits sh_type name = place_of (codes ".sbss" ∷ codes ".bss" ∷ []) name
