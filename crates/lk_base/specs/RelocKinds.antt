-- The kinds of relocations (RISC-V ELF psABI, "Relocations"): of each its number, the bytes of its place, what is
-- computed, which values the field takes, and the field.
use Rattle.std.specs.Prelude.{ℕ, ◌≡◌, ◌+◌, ◌==◌, pos, Bool, true, false, not, ◌&&◌, if◌then◌else◌, IsTrue, Option, Some, None, List, [], ◌∷◌, map}
use Rattle.std.specs.List.{list_any, range_with_len}
use Rattle.lk_base.specs.Formats.{Field, plain, no_bits, upper, upper_and_lower, i_format, s_format, b_format, j_format, cb_format, cj_format, low_six, whole_8, whole_16, whole_32, whole_64, field_of}
use Rattle.lk_base.specs.Reaches.{Reach, any, from_to, even_from_to, minus, reach_of}
use Rattle.lk_base.specs.declared.abi.TheConstants.{R_RISCV_NONE, R_RISCV_32, R_RISCV_64, R_RISCV_BRANCH, R_RISCV_JAL, R_RISCV_CALL, R_RISCV_CALL_PLT, R_RISCV_GOT_HI20, R_RISCV_TLS_GOT_HI20, R_RISCV_TLS_GD_HI20, R_RISCV_PCREL_HI20, R_RISCV_PCREL_LO12_I, R_RISCV_PCREL_LO12_S, R_RISCV_HI20, R_RISCV_LO12_I, R_RISCV_LO12_S, R_RISCV_TPREL_HI20, R_RISCV_TPREL_LO12_I, R_RISCV_TPREL_LO12_S, R_RISCV_TPREL_ADD, R_RISCV_ADD8, R_RISCV_ADD16, R_RISCV_ADD32, R_RISCV_ADD64, R_RISCV_SUB8, R_RISCV_SUB16, R_RISCV_SUB32, R_RISCV_SUB64, R_RISCV_ALIGN, R_RISCV_RVC_BRANCH, R_RISCV_RVC_JUMP, R_RISCV_RELAX, R_RISCV_SUB6, R_RISCV_SET6, R_RISCV_SET8, R_RISCV_SET16, R_RISCV_SET32, R_RISCV_32_PCREL, R_RISCV_PLT32, R_RISCV_SET_ULEB128, R_RISCV_SUB_ULEB128}
use Rattle.lk_base.specs.declared.relocations.Calculation.{Calculation}
use Rattle.lk_base.specs.declared.relocations.Calculation.TheVariants.{Nothing, Hint, Padding, Address, Distance, Partner, GotDistance, ThreadOffset, Increase, Decrease}
use Rattle.lk_base.specs.declared.relocations.Kind as code

-- what there is to know of a kind: the bytes of its place (of a ULEB128 number, which has one at least, 1), what is computed, the values it
-- takes and its field
pub record Kind : Type 0 where
  pub width : ℕ
  pub calculation : Calculation
  pub reach : Reach
  pub field : Field

-- a line of the table
pub record Line : Type 0 where
  pub number : ℕ
  pub kind : Kind

abbrev pub line : (number width : ℕ) → Calculation → Reach → Field → Line
line number width calculation reach field =
    record { number = number; kind = record { width = width; calculation = calculation; reach = reach; field = field } }

-- what an upper and a signed lower part reach together: -2^31 - 0x800 to 2^31 - 0x801
abbrev pub far : Reach
far = from_to (minus 2147485696) (pos 2147481599)

-- the lines of the standard's table: number, bytes, calculation, values, field
abbrev pub lines : List Line
lines =
    line R_RISCV_NONE 0 Nothing any no_bits
    ∷ line R_RISCV_32 4 Address (from_to (minus 2147483648) (pos 4294967295)) (plain whole_32)
    ∷ line R_RISCV_64 8 Address any (plain whole_64)
    ∷ line R_RISCV_BRANCH 4 Distance (even_from_to (minus 4096) (pos 4094)) (plain b_format)
    ∷ line R_RISCV_JAL 4 Distance (even_from_to (minus 1048576) (pos 1048574)) (plain j_format)
    ∷ line R_RISCV_CALL 8 Distance far upper_and_lower
    ∷ line R_RISCV_CALL_PLT 8 Distance far upper_and_lower
    ∷ line R_RISCV_GOT_HI20 4 GotDistance far upper
    ∷ line R_RISCV_TLS_GOT_HI20 4 GotDistance far upper
    ∷ line R_RISCV_TLS_GD_HI20 4 GotDistance far upper
    ∷ line R_RISCV_PCREL_HI20 4 Distance far upper
    ∷ line R_RISCV_PCREL_LO12_I 4 Partner any (plain i_format)
    ∷ line R_RISCV_PCREL_LO12_S 4 Partner any (plain s_format)
    ∷ line R_RISCV_HI20 4 Address far upper
    ∷ line R_RISCV_LO12_I 4 Address any (plain i_format)
    ∷ line R_RISCV_LO12_S 4 Address any (plain s_format)
    ∷ line R_RISCV_TPREL_HI20 4 ThreadOffset far upper
    ∷ line R_RISCV_TPREL_LO12_I 4 ThreadOffset any (plain i_format)
    ∷ line R_RISCV_TPREL_LO12_S 4 ThreadOffset any (plain s_format)
    ∷ line R_RISCV_TPREL_ADD 0 Nothing any no_bits
    ∷ line R_RISCV_ADD8 1 Increase any (plain whole_8)
    ∷ line R_RISCV_ADD16 2 Increase any (plain whole_16)
    ∷ line R_RISCV_ADD32 4 Increase any (plain whole_32)
    ∷ line R_RISCV_ADD64 8 Increase any (plain whole_64)
    ∷ line R_RISCV_SUB8 1 Decrease any (plain whole_8)
    ∷ line R_RISCV_SUB16 2 Decrease any (plain whole_16)
    ∷ line R_RISCV_SUB32 4 Decrease any (plain whole_32)
    ∷ line R_RISCV_SUB64 8 Decrease any (plain whole_64)
    ∷ line R_RISCV_ALIGN 0 Padding any no_bits
    ∷ line R_RISCV_RVC_BRANCH 2 Distance (even_from_to (minus 256) (pos 254)) (plain cb_format)
    ∷ line R_RISCV_RVC_JUMP 2 Distance (even_from_to (minus 2048) (pos 2046)) (plain cj_format)
    ∷ line R_RISCV_RELAX 0 Hint any no_bits
    ∷ line R_RISCV_SUB6 1 Decrease any (plain low_six)
    ∷ line R_RISCV_SET6 1 Address any (plain low_six)
    ∷ line R_RISCV_SET8 1 Address any (plain whole_8)
    ∷ line R_RISCV_SET16 2 Address any (plain whole_16)
    ∷ line R_RISCV_SET32 4 Address any (plain whole_32)
    ∷ line R_RISCV_32_PCREL 4 Distance (from_to (minus 2147483648) (pos 2147483647)) (plain whole_32)
    ∷ line R_RISCV_PLT32 4 Distance (from_to (minus 2147483648) (pos 2147483647)) (plain whole_32)
    ∷ line R_RISCV_SET_ULEB128 1 Nothing any no_bits
    ∷ line R_RISCV_SUB_ULEB128 1 Decrease any no_bits
    ∷ []

-- the kind of a number that has no line: nothing is written
abbrev pub unknown : Kind
unknown = record { width = 0; calculation = Nothing; reach = any; field = no_bits }

abbrev pub kind_in : List Line → ℕ → Kind
kind_in [] number = unknown
kind_in (l ∷ ls) number = if l.number == number then l.kind else kind_in ls number

unfoldable pub kind_of : ℕ → Kind
kind_of number = kind_in lines number

-- a kind as the code holds it
abbrev pub kind_view : code.Kind → Kind
kind_view kind = record { width = kind.width; calculation = kind.calculation; reach = reach_of kind.rule; field = field_of kind.format }

-- the calculation gives a value, which is put into a place
abbrev pub puts_value : Calculation → Bool
puts_value Nothing = false
puts_value Hint = false
puts_value Padding = false
puts_value _ = true

-- the calculation has a symbol
abbrev pub takes_symbol : Calculation → Bool
takes_symbol Hint = false
takes_symbol Padding = false
takes_symbol _ = true

unfoldable pub has_value : ℕ → Bool
has_value number = puts_value (kind_of number).calculation

abbrev pub HasValue : ℕ → Type 0
HasValue number = IsTrue (has_value number)

abbrev pub is_among : List ℕ → ℕ → Bool
is_among numbers number = list_any (λ n. n == number) numbers

-- the place is a ULEB128 number, which is as long as its bytes say
unfoldable pub is_uleb : ℕ → Bool
is_uleb = is_among (R_RISCV_SET_ULEB128 ∷ R_RISCV_SUB_ULEB128 ∷ [])

-- a value is put into the bits that the kind's field names
unfoldable pub fills_field : ℕ → Bool
fills_field number = has_value number && not (is_uleb number)

abbrev pub FillsField : ℕ → Type 0
FillsField number = IsTrue (fills_field number)

unfoldable pub names_a_symbol : ℕ → Bool
names_a_symbol number = takes_symbol (kind_of number).calculation

-- what stands after its place may move, since its place may get shorter
unfoldable pub moves_bytes : ℕ → Bool
moves_bytes = is_among (R_RISCV_CALL ∷ R_RISCV_CALL_PLT ∷ R_RISCV_ALIGN ∷ [])

-- the upper part of a distance, which a lower part's label names
unfoldable pub is_upper : ℕ → Bool
is_upper = is_among (R_RISCV_GOT_HI20 ∷ R_RISCV_TLS_GOT_HI20 ∷ R_RISCV_TLS_GD_HI20 ∷ R_RISCV_PCREL_HI20 ∷ [])

-- the lower part of a distance: its symbol is the label of the upper part
abbrev pub is_partner : Calculation → Bool
is_partner Partner = true
is_partner _ = false

unfoldable pub is_lower : ℕ → Bool
is_lower number = is_partner (kind_of number).calculation

-- goes by the GOT: its addend counts from the start of what its symbol stands for
abbrev pub is_got_distance : Calculation → Bool
is_got_distance GotDistance = true
is_got_distance _ = false

unfoldable pub goes_by_got : ℕ → Bool
goes_by_got number = is_got_distance (kind_of number).calculation

-- the relocations of unwind records may have it
unfoldable pub is_frame_kind : ℕ → Bool
is_frame_kind = is_among
    (R_RISCV_NONE ∷ R_RISCV_32 ∷ R_RISCV_64
    ∷ R_RISCV_ADD8 ∷ R_RISCV_ADD16 ∷ R_RISCV_ADD32 ∷ R_RISCV_ADD64 ∷ R_RISCV_SUB8 ∷ R_RISCV_SUB16 ∷ R_RISCV_SUB32 ∷ R_RISCV_SUB64
    ∷ R_RISCV_RELAX ∷ R_RISCV_SUB6 ∷ R_RISCV_SET6 ∷ R_RISCV_SET8 ∷ R_RISCV_SET16 ∷ R_RISCV_SET32 ∷ R_RISCV_32_PCREL ∷ [])

-- the kinds that are linked: each that has a line
abbrev pub linked_kinds : List ℕ
linked_kinds = map (λ (l : Line). l.number) lines

unfoldable pub is_linked : ℕ → Bool
is_linked = is_among linked_kinds

-- a line of a table by number, as the code holds it
abbrev pub line_view : Option code.Kind → Option Kind
line_view None = None
line_view (Some kind) = Some (kind_view kind)

-- the line of a number, if it has one
abbrev pub line_at : ℕ → Option Kind
line_at number = if is_linked number then Some (kind_of number) else None

-- a table by number: the line of each number up to the last that has one
unfoldable pub IsTable : List (Option code.Kind) → Type 0
IsTable table = map line_view table ≡ map line_at (range_with_len 0 (R_RISCV_SUB_ULEB128 + 1))
