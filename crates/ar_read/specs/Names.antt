-- Names of members (System V ar format with GNU long names): a name stands in its header before a `/`, or in the table of
-- long names, which is the data of the header `//`, before a `/` and a newline.
use Rattle.std.specs.Prelude.{ℕ, ◌≤◌, ◌+◌, ◌-◌, ◌==◌, Bool, true, false, not, ◌||◌, nat_eq, Option, Some, None, is_some, unwrap_or, if◌then◌else◌, List, [], ◌∷◌, take, drop, position, codes}
use Rattle.std.specs.List.{starts_with}
use Rattle.std.specs.Option.{option_map}
use Rattle.std.specs.Str.{bytes_eq}
use Rattle.memchr.specs.Find.{matches, first_of}
use Rattle.lk_base.specs.declared.kinds.DefectKind.TheVariants.{F06, F18}
use Rattle.lk_tables.specs.declared.spans.Span.{Span}
use Rattle.lk_tables.specs.Checks.{Check, ◌says◌, flaw_at}
use Rattle.lk_tables.specs.Names.{span}
use Rattle.ar_read.specs.declared.format.TheConstants.{SLASH}
use Rattle.ar_read.specs.declared.names.NameKind.{NameKind}
use Rattle.ar_read.specs.declared.names.NameKind.TheVariants.{Index, LongNames, Long, Foreign, Short}
use Rattle.ar_read.specs.Fields.{decimal}

abbrev pub is_slash : ℕ → Bool
is_slash byte = byte == SLASH

-- `/` and `/SYM64/` are indexes of symbols
unfoldable pub is_index : List ℕ → Bool
is_index name = bytes_eq name (codes "/") || bytes_eq name (codes "/SYM64/")

-- `//` is the table of long names
unfoldable pub is_table : List ℕ → Bool
is_table name = bytes_eq name (codes "//")

-- `/` and a number name a place in that table
unfoldable pub long_place : List ℕ → Option ℕ
long_place name = if starts_with nat_eq name (codes "/") then decimal (drop 1 name) else None

-- the forms of BSD
unfoldable pub is_bsd : List ℕ → Bool
is_bsd name = starts_with nat_eq name (codes "#1/") || starts_with nat_eq name (codes "__.SYMDEF")

-- a name that stands in the header lies in so many bytes
abbrev pub ShortWithin : ℕ → NameKind → Type 0
ShortWithin most Index = Unit {0}
ShortWithin most LongNames = Unit {0}
ShortWithin most (Long n) = Unit {0}
ShortWithin most Foreign = Unit {0}
ShortWithin most (Short len) = len ≤ most

-- what a header's name says
unfoldable pub kind_of : List ℕ → NameKind
kind_of name =
    if is_index name then Index else
    (if is_table name then LongNames else
    (if is_some (long_place name) then Long (unwrap_or (long_place name) 0) else
    (if is_bsd name || not (is_some (position is_slash name)) then Foreign else
    Short (unwrap_or (position is_slash name) 0))))

-- how many bytes stand before the first `/` and newline
unfoldable pub ended_len : List ℕ → Option ℕ
ended_len text = first_of (matches text (codes "/\n") 0)

-- the name at byte n of the table that stands before, if it ends there
unfoldable pub long_name : List ℕ → Option Span → ℕ → Option Span
long_name b None n = None
long_name b (Some table) n = option_map (span (table.from + n)) (ended_len (take (table.len - n) (drop (table.from + n) b)))

-- a second table, a place without a name, and names that are none
unfoldable pub name_checks : List ℕ → Option Span → ℕ → NameKind → List Check
name_checks b table at Index = []
name_checks b table at LongNames = (is_some table says flaw_at F06 0 at) ∷ []
name_checks b table at (Long n) = (not (is_some (long_name b table n)) says flaw_at F06 0 at) ∷ []
name_checks b table at Foreign = (true says flaw_at F18 0 at) ∷ []
name_checks b table at (Short len) = []

-- the name of a member; the indexes and the table are none
unfoldable pub name_of : List ℕ → Option Span → ℕ → NameKind → Option Span
name_of b table at Index = None
name_of b table at LongNames = None
name_of b table at (Long n) = long_name b table n
name_of b table at Foreign = None
name_of b table at (Short len) = Some (span at len)

unfoldable pub is_long_names : NameKind → Bool
is_long_names Index = false
is_long_names LongNames = true
is_long_names (Long n) = false
is_long_names Foreign = false
is_long_names (Short len) = false
