-- An archive: where its headers stand, which checks they have to pass, and its members in order (System V ar format with
-- GNU long names).
use Rattle.std.specs.Prelude.{◌≡◌, ℕ, zero, suc, ◌+◌, ◌%◌, ◌<◌, ◌≤◌, ◌||◌, not, nat_lt, nat_eq, Bool, Option, Some, None, if◌then◌else◌, Result, List, [], ◌∷◌, ◌++◌, length, find, codes}
use Rattle.std.specs.List.{range_with_len, prefix_len, filter_map, starts_with}
use Rattle.std.specs.Option.{option_map, option_or}
use Rattle.lk_base.specs.declared.defects.Flaw.{Flaw}
use Rattle.lk_base.specs.declared.kinds.DefectKind.TheVariants.{F06, F07}
use Rattle.lk_tables.specs.declared.spans.Span.{Span}
use Rattle.lk_tables.specs.Checks.{Check, ◌says◌, checked, flaw_at, from_on, NoneBroken, IsFirstBroken}
use Rattle.ar_read.specs.declared.archive.Member.{Member}
use Rattle.ar_read.specs.declared.entries.Entry.{Entry}
use Rattle.ar_read.specs.declared.format.TheConstants.{AR_HDR_LEN, SARMAG}
use Rattle.ar_read.specs.declared.names.NameKind.{NameKind}
use Rattle.ar_read.specs.Fields.{form_checks, head_of, name_text, size}
use Rattle.ar_read.specs.Names.{kind_of, name_checks, name_of, is_long_names}

-- the next even offset
abbrev pub even : ℕ → ℕ
even n = n + n % 2

-- a file that begins as an archive does, or as a thin one
unfoldable pub is_archive : List ℕ → Bool
is_archive b = starts_with nat_eq b (codes "!<arch>\n") || starts_with nat_eq b (codes "!<thin>\n")

-- where the header stands that follows: after the data, and after an odd size a byte of padding
abbrev pub next : List ℕ → ℕ → ℕ
next b at = even (at + AR_HDR_LEN + size b at)

-- where header j stands, from 0
unfoldable pub place : List ℕ → ℕ → ℕ
place b zero = SARMAG
place b (suc j) = next b (place b j)

-- these are all headers: they stand in the file, and the next would stand at its end or past it
pub record HasHeaders (b : List ℕ) (count : ℕ) : Type 0 where
  pub inside : (j : ℕ) → j < count → place b j < length b
  pub over : length b ≤ place b count

-- how many there are, which is no more than the file has bytes
unfoldable pub count : List ℕ → ℕ
count b = prefix_len (λ j. nat_lt (place b j) (length b)) (range_with_len 0 (length b))

-- what the name of the header at an offset says
unfoldable pub kind_at : List ℕ → ℕ → NameKind
kind_at b at = kind_of (name_text b at)

-- the data of the first table of long names among the headers below j
unfoldable pub table_before : List ℕ → ℕ → Option Span
table_before b j = option_map (λ k. (head_of b (place b k)).body) (find (λ k. is_long_names (kind_at b (place b k))) (range_with_len 0 j))

-- the checks of the header at an offset after a table of long names, and of header j
unfoldable pub checks_at : List ℕ → Option Span → ℕ → List Check
checks_at b table at = form_checks b at ++ name_checks b table at (kind_at b at)

abbrev pub header_checks : List ℕ → ℕ → List Check
header_checks b j = checks_at b (table_before b j) (place b j)

-- a name with these data
abbrev pub named : (body name : Span) → Member
named body name = record { name = name; body = body }

-- the member whose header stands at an offset, and that of header j: indexes and the table of long names are none
unfoldable pub member_at : List ℕ → Option Span → ℕ → Option Member
member_at b table at = option_map (named (head_of b at).body) (name_of b table at (kind_at b at))

abbrev pub member_of : List ℕ → ℕ → Option Member
member_of b j = member_at b (table_before b j) (place b j)

-- the file starts as an archive does that has its members' bytes
unfoldable pub magic_checks : List ℕ → List Check
magic_checks b =
    (starts_with nat_eq b (codes "!<thin>\n") says flaw_at F07 0 0)
    ∷ (not (starts_with nat_eq b (codes "!<arch>\n")) says flaw_at F06 0 0)
    ∷ []

-- the checks of an archive of so many headers, and its members
unfoldable pub archive_checks : List ℕ → ℕ → List Check
archive_checks b n = magic_checks b ++ from_on (header_checks b) 0 n

unfoldable pub members_of : List ℕ → ℕ → List Member
members_of b n = filter_map (member_of b) (range_with_len 0 n)

-- what is read of an archive
unfoldable pub archive_of : List ℕ → Result (List Member) Flaw
archive_of b = checked (archive_checks b (count b)) (members_of b (count b))

-- a member's name and data lie in the first bytes
abbrev pub LiesIn : ℕ → Member → Type 0
LiesIn len member = (member.name.from + member.name.len ≤ len) × (member.body.from + member.body.len ≤ len)

-- the file is an archive of these members
pub record ArOf (b : List ℕ) (members : List Member) : Type 0 where
  pub headers : ℕ
  pub all : HasHeaders b headers
  pub sound : NoneBroken (archive_checks b headers)
  pub members_are : members ≡ members_of b headers

-- the file is none, and this is its first broken check
pub record ArFlaw (b : List ℕ) (flaw : Flaw) : Type 0 where
  pub headers : ℕ
  pub all : HasHeaders b headers
  pub first : IsFirstBroken (archive_checks b headers) flaw

-- what one header gives: its member, the table of long names that stands before the next header, and where that stands
unfoldable pub entry_at : List ℕ → Option Span → ℕ → Entry
entry_at b table at = record {
  member = member_at b table at;
  table = option_or table (if is_long_names (kind_at b at) then Some (head_of b at).body else None);
  next = next b at;
}
