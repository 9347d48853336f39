-- Section groups and the checks of their sections (System V gABI, "Section Groups"): an array of words, of which the first has
-- the flags and each other the index of a member.
use Rattle.std.specs.Prelude.{ℕ, ◌+◌, ◌-◌, ◌*◌, ◌/◌, ◌%◌, Bool, not, ◌&&◌, ◌||◌, ◌==◌, nat_lt, if◌then◌else◌, List, [], ◌∷◌, map}
use Rattle.std.specs.List.{list_any, range_with_len}
use Rattle.lk_base.specs.declared.abi.TheConstants.{GRP_COMDAT, SHT_GROUP, WORD_SIZE}
use Rattle.lk_base.specs.declared.kinds.TheConstants.{BAD_GROUP}
use Rattle.lk_tables.specs.declared.heads.Place.{Place}
use Rattle.lk_tables.specs.declared.heads.Place.TheVariants.{Undef, Absolute, Common, Within}
use Rattle.lk_tables.specs.declared.heads.Section.{Section}
use Rattle.lk_tables.specs.declared.heads.Symbol.{Symbol}
use Rattle.lk_tables.specs.declared.spans.Span.{Span}
use Rattle.lk_tables.specs.Checks.{Check, ◌says◌, flaw_at}
use Rattle.lk_tables.specs.FileHeader.{place_of, section_count}
use Rattle.lk_tables.specs.Names.{no_name}
use Rattle.lk_tables.specs.Numbers.{word_at}
use Rattle.lk_tables.specs.Sections.{section_of}
use Rattle.lk_tables.specs.Symbols.{symtab_of, symbol_of, symbol_count, is_section_symbol}

-- section i is a group; section 0 is none
unfoldable pub is_group : List ℕ → ℕ → Bool
is_group b i = nat_lt 0 i && (section_of b i).sh_type == SHT_GROUP

-- its flag word, how many members follow it, and these
abbrev pub flag_word : List ℕ → ℕ → ℕ
flag_word b i = word_at b (section_of b i).offset

abbrev pub member_count : List ℕ → ℕ → ℕ
member_count b i = (section_of b i).size / WORD_SIZE - 1

abbrev pub member : List ℕ → (i k : ℕ) → ℕ
member b i k = word_at b ((section_of b i).offset + WORD_SIZE * (k + 1))

unfoldable pub members_of : List ℕ → ℕ → List ℕ
members_of b i = map (member b i) (range_with_len 0 (member_count b i))

-- the name of the section in which a symbol stands, empty where it stands in none
unfoldable pub name_by : List ℕ → Place → Span
name_by b (Within k) = (section_of b k).name
name_by b Undef = no_name
name_by b Absolute = no_name
name_by b Common = no_name

-- the name of a symbol, or of its section if it is a SECTION symbol
unfoldable pub signature_by : List ℕ → Symbol → Span
signature_by b s = if is_section_symbol s then name_by b s.place else s.name

-- the name by which groups of several files are one: that of the symbol of sh_info
abbrev pub signature_of : List ℕ → ℕ → Span
signature_of b i = signature_by b (symbol_of b (section_of b i).info)

-- section k is a member of the group i, or of one before section i
unfoldable pub has_member : List ℕ → (k i : ℕ) → Bool
has_member b k i = is_group b i && list_any (λ m. m == k) (members_of b i)

unfoldable pub is_taken_before : List ℕ → (i k : ℕ) → Bool
is_taken_before b i k = list_any (has_member b k) (range_with_len 0 i)

-- entries of another size than a word's, or no flag word
unfoldable pub is_uneven_group : Section → Bool
is_uneven_group s = not (s.entsize == WORD_SIZE) || (s.size == 0 || not (s.size % WORD_SIZE == 0))

-- flags that are not known
unfoldable pub is_bad_flag : ℕ → Bool
is_bad_flag word = not (word == 0) && not (word == GRP_COMDAT)

-- a signature of another symbol table, or past its end; index 0 names none
unfoldable pub is_unsigned : (symtab count : ℕ) → Section → Bool
is_unsigned symtab count s = symtab == 0 || (not (s.link == symtab) || not (nat_lt s.info count))

-- a member of group i that is no section, the group itself, or a member of an earlier group
unfoldable pub is_bad_member : List ℕ → (i k : ℕ) → Bool
is_bad_member b i k = k == 0 || (not (nat_lt k (section_count b)) || (k == i || is_taken_before b i k))

-- a group that cannot be
unfoldable pub is_bad_group_header : List ℕ → (i : ℕ) → Section → Bool
is_bad_group_header b i s =
    is_uneven_group s || (is_bad_flag (flag_word b i) || is_unsigned (symtab_of b) (symbol_count b) s)

unfoldable pub is_bad_group : List ℕ → (i : ℕ) → Bool
is_bad_group b i = is_bad_group_header b i (section_of b i) || list_any (is_bad_member b i) (members_of b i)

-- the check of section i
unfoldable pub group_checks : List ℕ → ℕ → List Check
group_checks b i = (is_group b i && is_bad_group b i says flaw_at BAD_GROUP i (place_of b i)) ∷ []
