-- Which symbol a name is bound to (System V gABI, "Symbol Table": a defined symbol of binding GLOBAL is taken before a COMMON one,
-- and that before a WEAK one; ties go to the first file of the command).
use Rattle.std.specs.Prelude.{ℕ, ◌^◌, ◌&&◌, ◌==◌, not, nat_lt, bit_and, Bool, false, Option, Some, None, if◌then◌else◌, min, max, List, [], ◌∷◌, ◌++◌, length, map, filter, find, slice_index_or, flat_map}
use Rattle.std.specs.List.{range_with_len}
use Rattle.std.specs.Str.{bytes_eq}
use Rattle.lk_base.specs.declared.defects.Defect.{Defect}
use Rattle.lk_base.specs.declared.abi.TheConstants.{EF_RISCV_FLOAT_ABI, STB_LOCAL, STB_WEAK}
use Rattle.lk_base.specs.declared.kinds.TheConstants.{FLAGS_CLASH, DUPLICATE, NO_ENTRY}
use Rattle.lk_base.specs.declared.numbers.TheConstants.{NO_FILE}
use Rattle.lk_tables.specs.declared.commons.BoundCommon.{BoundCommon}
use Rattle.lk_tables.specs.declared.heads.Symbol.{Symbol}
use Rattle.lk_tables.specs.declared.heads.Place.{Place}
use Rattle.lk_tables.specs.declared.heads.Place.TheVariants.{Undef, Absolute, Common, Within}
use Rattle.lk_tables.specs.Symbols.{is_undef, is_common}
use Rattle.lk_tables.specs.Files.{File, file_at, symbol_at, symbol_name, section_no, common_no, by_symbol, is_visible}
use Rattle.lk_tables.specs.Ranks.{no_rank, rank_of, file_of, symbol_of_rank}

-- an offer of a name: the symbol that offers it, as a rank; the least rank is taken
pub record Offer : Type 0 where
  pub name : List ℕ
  pub rank : ℕ

-- a symbol that other files see offers its name if it is defined
abbrev pub is_offer : Symbol → Bool
is_offer s = is_visible s && not (is_undef s.place)

-- strong 0, COMMON 1, WEAK 2
abbrev pub class_of : Symbol → ℕ
class_of s = if is_common s.place then 1 else (if s.binding == STB_WEAK then 2 else 0)

-- a section that was discarded with its group, by its number
abbrev pub is_discarded : List File → List Bool → ℕ → Place → Bool
is_discarded files gone f (Within k) = slice_index_or gone (section_no files f k) false
is_discarded files gone f Undef = false
is_discarded files gone f Absolute = false
is_discarded files gone f Common = false

-- the offers of symbol i of file f, of a live file, and of all, in order of file and symbol
unfoldable pub offer_at : List File → List Bool → (f i : ℕ) → List Offer
offer_at files gone f i =
    let s = symbol_at (file_at files f) i in
    if is_offer s && not (is_discarded files gone f s.place)
    then record { name = symbol_name (file_at files f) i; rank = rank_of (class_of s) f i } ∷ [] else []

unfoldable pub offers_in : List File → List Bool → ℕ → List Offer
offers_in files gone f = if (file_at files f).live
    then flat_map (offer_at files gone f) (range_with_len 0 (length (file_at files f).head.symbols)) else []

unfoldable pub offers : List File → List Bool → List Offer
offers files gone = flat_map (offers_in files gone) (range_with_len 0 (length files))

-- the least rank on offer for a name
unfoldable pub least_rank : List ℕ → List Offer → ℕ
least_rank name [] = no_rank
least_rank name (o ∷ os) = if bytes_eq o.name name then min o.rank (least_rank name os) else least_rank name os

-- what a name is bound to: the rank of a symbol, or none
unfoldable pub bound_rank : List File → List Bool → List ℕ → ℕ
bound_rank files gone name = least_rank name (offers files gone)

-- what the name of symbol i of file f is bound to; a local symbol stands for itself
unfoldable pub rank_bound : List File → List Bool → (f i : ℕ) → ℕ
rank_bound files gone f i = if (symbol_at (file_at files f) i).binding == STB_LOCAL then no_rank
    else bound_rank files gone (symbol_name (file_at files f) i)

-- what a COMMON symbol asks for: bytes, and an alignment, 0 being read as 1
pub record Demand : Type 0 where
  pub name : List ℕ
  pub size : ℕ
  pub align : ℕ

unfoldable pub demand_at : List File → (f i : ℕ) → List Demand
demand_at files f i =
    let s = symbol_at (file_at files f) i in
    if is_common s.place
    then record { name = symbol_name (file_at files f) i; size = s.size; align = max 1 s.value } ∷ [] else []

unfoldable pub demands_in : List File → ℕ → List Demand
demands_in files f = if (file_at files f).live
    then flat_map (demand_at files f) (range_with_len 0 (length (file_at files f).head.symbols)) else []

unfoldable pub demands : List File → List Demand
demands files = flat_map (demands_in files) (range_with_len 0 (length files))

-- the greatest size and the greatest alignment that a name's COMMON symbols ask for
unfoldable pub greatest_size : List ℕ → List Demand → ℕ
greatest_size name [] = 0
greatest_size name (d ∷ ds) = if bytes_eq d.name name then max d.size (greatest_size name ds) else greatest_size name ds

unfoldable pub greatest_align : List ℕ → List Demand → ℕ
greatest_align name [] = 1
greatest_align name (d ∷ ds) = if bytes_eq d.name name then max d.align (greatest_align name ds) else greatest_align name ds

-- the COMMON symbols to which their names are bound, in order of file and symbol, with the room that they get
unfoldable pub bound_common_at : List File → List Bool → (f i : ℕ) → List BoundCommon
bound_common_at files gone f i =
    let s = symbol_at (file_at files f) i in
    if is_common s.place && rank_bound files gone f i == rank_of 1 f i
    then record {
      file = f;
      symbol = i;
      section = common_no files f i;
      size = greatest_size (symbol_name (file_at files f) i) (demands files);
      align = greatest_align (symbol_name (file_at files f) i) (demands files);
    } ∷ [] else []

unfoldable pub bound_commons_in : List File → List Bool → ℕ → List BoundCommon
bound_commons_in files gone f = if (file_at files f).live
    then flat_map (bound_common_at files gone f) (range_with_len 0 (length (file_at files f).head.symbols)) else []

-- all names of a link, bound: the discarded sections, by number; for each symbol, by number, the rank that its name is bound to; the
-- entry's; the COMMON symbols that get room, one list for each file
pub record Bindings : Type 0 where
  pub discarded : List Bool
  pub ranks : List ℕ
  pub entry : ℕ
  pub commons : List (List BoundCommon)

unfoldable pub live_rank : List File → List Bool → (f i : ℕ) → ℕ
live_rank files gone f i = if (file_at files f).live then rank_bound files gone f i else no_rank

-- bound by the offers of files alone
unfoldable pub offered_bindings : List File → List Bool → List ℕ → Bindings
offered_bindings files gone entry = record {
  discarded = gone;
  ranks = by_symbol files (live_rank files gone);
  entry = bound_rank files gone entry;
  commons = map (bound_commons_in files gone) (range_with_len 0 (length files));
}

-- the float ABI (RISC-V ELF psABI, "File Header": e_flags, EF_RISCV_FLOAT_ABI) of each live file, with its number
pub record FloatAbi : Type 0 where
  pub file : ℕ
  pub abi : ℕ

unfoldable pub float_abi_at : List File → ℕ → List FloatAbi
float_abi_at files f = if (file_at files f).live
    then record { file = f; abi = bit_and (file_at files f).head.flags EF_RISCV_FLOAT_ABI } ∷ [] else []

abbrev pub float_abis : List File → List FloatAbi
float_abis files = flat_map (float_abi_at files) (range_with_len 0 (length files))

-- a live file whose float ABI is not that of the first
abbrev pub clash_of : ℕ → FloatAbi → List Defect
clash_of first own = if own.abi == first then []
    else record { kind = FLAGS_CLASH; file = own.file; section = 0; place = own.abi; symbol = 0; other = first } ∷ []

abbrev pub clashes_with_first : List FloatAbi → List Defect
clashes_with_first [] = []
clashes_with_first (first ∷ rest) = flat_map (clash_of first.abi) rest

unfoldable pub flag_defects : List File → List Defect
flag_defects files = clashes_with_first (float_abis files)

-- strong offers of one name: the first, and the next after it
abbrev pub is_strong : Offer → Bool
is_strong o = nat_lt o.rank (2 ^ 56)

abbrev pub duplicate_of : Offer → Option Offer → List Defect
duplicate_of first None = []
duplicate_of first (Some next) = record {
  kind = DUPLICATE;
  file = file_of first.rank;
  section = 0;
  place = symbol_of_rank first.rank;
  symbol = symbol_of_rank first.rank;
  other = file_of next.rank;
} ∷ []

abbrev pub duplicates_of : List Offer → List Defect
duplicates_of [] = []
duplicates_of (o ∷ os) = duplicate_of o (find (λ p. bytes_eq p.name o.name) os) ++ duplicates_of os

unfoldable pub duplicate_defects : List File → List Bool → List Defect
duplicate_defects files gone = duplicates_of (filter is_strong (offers files gone))

-- the entry is bound to nothing
abbrev pub no_entry : Defect
no_entry = record { kind = NO_ENTRY; file = NO_FILE; section = 0; place = 0; symbol = 0; other = 0 }

-- the defects of the first phase that has any
abbrev pub first_phase : List (List Defect) → List Defect
first_phase [] = []
first_phase ([] ∷ phases) = first_phase phases
first_phase ((defect ∷ defects) ∷ phases) = defect ∷ defects
