-- The walk: where the output sections of a class and their members stand, from a cursor on.
use Rattle.std.specs.Prelude.{ℕ, ◌+◌, ◌-◌, ◌*◌, ◌<◌, ◌≤◌, ◌≡◌, Bool, ◌==◌, Option, Some, None, if◌then◌else◌, max, List, [], ◌∷◌, ◌++◌, All, length, slice_set, slice_get, slice_index_or, bit_and, bit_or, map}
use Rattle.std.specs.List.{list_all, fold, sum_by}
use Rattle.lk_base.specs.declared.abi.TheConstants.{ALIGN_MAX, NOBITS_MAX, SHF_ALLOC, SHF_EXECINSTR, SHF_TLS, SHF_WRITE, SHT_NOBITS, SHT_PROGBITS}
use Rattle.lk_base.specs.Arithmetic.{up}
use Rattle.lk_tables.specs.declared.classes.Class.{Class}
use Rattle.lk_tables.specs.declared.classes.Class.TheVariants.{R, Rx, TlsBits, TlsNobits, RwBits, RwNobits}
use Rattle.lk_tables.specs.OutputNames.{output_name}
use Rattle.link_sections.specs.declared.members.Content.{Content}
use Rattle.link_sections.specs.declared.members.Content.TheVariants.{Section, Pool as IsPool, Got}
use Rattle.link_sections.specs.declared.members.Member.{Member}
use Rattle.link_sections.specs.Cuts.{Cut, new_offset}
use Rattle.link_sections.specs.LaidOut.{OutputPlace, OutputSection}
use Rattle.output_sections.specs.declared.rows.Row.{Row}
use Rattle.layout.specs.declared.walk.Cursor.{Cursor}
use Rattle.layout.specs.declared.places.Places.{Places}
use Rattle.layout.specs.Cutting.{laid_cuts}
use Rattle.output_sections.specs.Items.{Item}

-- the output sections of a class, its members being in their order: each run of one group
abbrev pub beside : Row → List (List Row) → List (List Row)
beside row [] = (row ∷ []) ∷ []
beside row ([] ∷ rest) = (row ∷ []) ∷ rest
beside row ((next ∷ run) ∷ rest) =
    if next.group == row.group then (row ∷ next ∷ run) ∷ rest else (row ∷ []) ∷ (next ∷ run) ∷ rest

unfoldable pub runs : List Row → List (List Row)
runs [] = []
runs (row ∷ rows) = beside row (runs rows)

-- the greatest alignment of these members, and 1 of none
unfoldable pub greatest : List Row → ℕ
greatest rows = fold (λ found row. max found row.align) 1 rows

-- no member has a byte, before any is gone
unfoldable pub is_empty : List Row → Bool
is_empty rows = list_all (λ row. row.size == 0) rows

-- the flags of the members together, of WRITE, ALLOC, EXECINSTR and TLS
unfoldable pub flags_of : List Row → ℕ
flags_of rows = bit_and (fold (λ flags row. bit_or flags row.flags) 0 rows) (SHF_WRITE + SHF_ALLOC + SHF_EXECINSTR + SHF_TLS)

-- the name is that to which the first member's goes
abbrev pub name_of_item : Option Item → List ℕ
name_of_item None = []
name_of_item (Some item) = output_name item.name

abbrev pub first_name : List Item → List Row → List ℕ
first_name items [] = []
first_name items (row ∷ rows) = name_of_item (slice_get items row.number)

-- NOBITS in a class without bits, else the first member's type; NOBITS counts as PROGBITS
abbrev pub bits_type : List Row → ℕ
bits_type [] = SHT_PROGBITS
bits_type (row ∷ rows) = if row.sh_type == SHT_NOBITS then SHT_PROGBITS else row.sh_type

abbrev pub first_type : Class → List Row → ℕ
first_type R rows = bits_type rows
first_type Rx rows = bits_type rows
first_type TlsBits rows = bits_type rows
first_type TlsNobits rows = SHT_NOBITS
first_type RwBits rows = bits_type rows
first_type RwNobits rows = SHT_NOBITS

-- the output section of these members, from its start to its end
unfoldable pub section_of : List Item → Class → List Row → (start end : ℕ) → OutputSection
section_of items class rows start end = record {
  name = first_name items rows;
  class = class;
  sh_type = first_type class rows;
  flags = flags_of rows;
  address = start;
  size = end - start;
  align = greatest rows;
  count = length rows;
}

-- where it is
unfoldable pub place_of : List Item → Class → List Row → (start end : ℕ) → OutputPlace
place_of items class rows start end = record { name = first_name items rows; class = class; start = start; end = end }

-- where a member stands, by what it is: a section and a pool by their numbers
pub record Stands : Type 0 where
  pub starts : List ℕ
  pub pools : List ℕ
  pub got : ℕ

unfoldable pub stands_view : Places → Stands
stands_view p = record { starts = p.starts.items; pools = p.pools.items; got = p.got }

abbrev pub put : Content → (start : ℕ) → Stands → Stands
put (Section n) start s = record { starts = slice_set s.starts n start; pools = s.pools; got = s.got }
put (IsPool p) start s = record { starts = s.starts; pools = slice_set s.pools p start; got = s.got }
put Got start s = record { starts = s.starts; pools = s.pools; got = start }

abbrev pub all_put : List Member → Stands → Stands
all_put [] s = s
all_put (m ∷ ms) s = all_put ms (put m.content m.start s)

module _ (sizes : List (List Cut)) where
  -- a section alone has cuts
  abbrev pub cuts_in : Content → List Cut
  cuts_in (Section n) = slice_index_or sizes n []
  cuts_in (IsPool p) = []
  cuts_in Got = []

  -- a member that starts at an address has the bytes that stay
  unfoldable pub size_at : (start : ℕ) → Row → ℕ
  size_at start row = new_offset (laid_cuts start (cuts_in row.content)) row.size

  abbrev pub member_at : (start : ℕ) → Row → Member
  member_at start row = record { content = row.content; start = start; size = size_at start row }

  -- the members of an output section that is not empty, from its start on, and where the last of them ends
  abbrev pub members_from : (cursor : ℕ) → List Row → List Member
  members_from cursor [] = []
  members_from cursor (row ∷ rows) =
      member_at (up cursor row.align) row ∷ members_from (up cursor row.align + size_at (up cursor row.align) row) rows

  abbrev pub past : (cursor : ℕ) → List Row → ℕ
  past cursor [] = cursor
  past cursor (row ∷ rows) = past (up cursor row.align + size_at (up cursor row.align) row) rows

-- the members of an empty output section stand at its start
abbrev pub still : (start : ℕ) → Row → Member
still start row = record { content = row.content; start = start; size = 0 }

abbrev pub members_still : (start : ℕ) → List Row → List Member
members_still start rows = map (still start) rows

-- an output section starts at a multiple of its greatest alignment, and the next one that is not empty at one of `extra`, too
unfoldable pub start_of : Cursor → List Row → ℕ
start_of c rows = up c.at (if is_empty rows then greatest rows else max c.extra (greatest rows))

-- a cursor where no output section takes more than its own alignment
abbrev pub cursor_at : ℕ → Cursor
cursor_at at = record { at = at; extra = 1 }

module _ (sizes : List (List Cut)) where
  -- an empty output section does not move the cursor
  unfoldable pub after : Cursor → List Row → Cursor
  after c rows = if is_empty rows then c else cursor_at (past sizes (start_of c rows) rows)

  -- the members of an output section; those that count as its members, which an empty one does not have; the output section
  unfoldable pub stands_in : Cursor → List Row → List Member
  stands_in c rows = if is_empty rows then members_still (start_of c rows) rows else members_from sizes (start_of c rows) rows

  unfoldable pub members_in : Cursor → List Row → List Member
  members_in c rows = if is_empty rows then [] else members_from sizes (start_of c rows) rows

  unfoldable pub section_in : List Item → Class → Cursor → List Row → List OutputSection
  section_in items class c rows =
      if is_empty rows then [] else section_of items class rows (start_of c rows) (past sizes (start_of c rows) rows) ∷ []

  -- where it is, if it is empty, too
  unfoldable pub place_in : List Item → Class → Cursor → List Row → OutputPlace
  place_in items class c rows = place_of items class rows (start_of c rows) (if is_empty rows then start_of c rows else past sizes (start_of c rows) rows)

  -- the members, the output sections and the places of a class, one output section after the other, and the cursor after them
  abbrev pub stands_along : Cursor → List (List Row) → List Member
  stands_along c [] = []
  stands_along c (o ∷ os) = stands_in c o ++ stands_along (after c o) os

  abbrev pub members_along : Cursor → List (List Row) → List Member
  members_along c [] = []
  members_along c (o ∷ os) = members_in c o ++ members_along (after c o) os

  abbrev pub sections_along : List Item → Class → Cursor → List (List Row) → List OutputSection
  sections_along items class c [] = []
  sections_along items class c (o ∷ os) = section_in items class c o ++ sections_along items class (after c o) os

  abbrev pub places_along : List Item → Class → Cursor → List (List Row) → List OutputPlace
  places_along items class c [] = []
  places_along items class c (o ∷ os) = place_in items class c o ∷ places_along items class (after c o) os

  abbrev pub end_along : Cursor → List (List Row) → Cursor
  end_along c [] = c
  end_along c (o ∷ os) = end_along (after c o) os

-- so much rows may take: an alignment needs less than twice the bytes that it has, so that a section may triple
abbrev pub weight : List Row → ℕ
weight rows = sum_by (λ row. 3 * row.size + 2 * ALIGN_MAX) rows

-- a row of a section or of a pool whose number is one of so many
pub record IsKnown (sections pools : ℕ) (row : Row) : Type 0 where
  pub number : (n : ℕ) → row.content ≡ Section n → n < sections
  pub pool : (p : ℕ) → row.content ≡ IsPool p → p < pools

-- a row of a size and an alignment that can be; the cuts of a section lie in it
pub record IsReady (sizes : List (List Cut)) (sections pools : ℕ) (row : Row) : Type 0 where
  pub known : IsKnown sections pools row
  pub small : (n : ℕ) → row.content ≡ Section n → row.size ≤ NOBITS_MAX
  pub cuts : (n : ℕ) → row.content ≡ Section n → All (λ c. c.at + c.whole ≤ row.size) (slice_index_or sizes n [])
  pub some : 1 ≤ row.align
  pub aligned : row.align ≤ ALIGN_MAX
