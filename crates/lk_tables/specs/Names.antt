-- Names in string tables (System V gABI, "String Table"): the bytes up to the first zero.
use Rattle.std.specs.Prelude.{ℕ, ◌+◌, ◌-◌, Bool, ◌==◌, Option, List, take, drop, position}
use Rattle.lk_tables.specs.declared.spans.Span.{Span}

abbrev pub is_zero : ℕ → Bool
is_zero byte = byte == 0

-- how many bytes the name has that starts at `at` of the string table of `size` bytes at `from`, if it ends there
unfoldable pub name_len : List ℕ → (from size at : ℕ) → Option ℕ
name_len b from size at = position is_zero (take (size - at) (drop (from + at) b))

-- bytes of the file that is read, of which the number is not known
abbrev pub span : (from len : ℕ) → Span
span from len = record { file = 0xffffffff; from = from; len = len }

abbrev pub no_name : Span
no_name = span 0 0

-- the bytes of a span
unfoldable pub text_of : List ℕ → Span → List ℕ
text_of b name = take name.len (drop name.from b)
