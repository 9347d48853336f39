-- What holds of a head and of a body in which no check is broken, as facts about their lists: each number, offset and
-- size lies where it must (System V gABI, "Sections", "Symbol Table", "Relocation").
use Rattle.std.specs.Prelude.{◌≡◌, ◌≢◌, ℕ, ◌+◌, ◌*◌, ◌%◌, ℤ, pos, unsigned_abs, ◌<◌, ◌≤◌, ◌||◌, true, is_some, bit_and, List, [], length, slice_index_or}
use Rattle.std.specs.List.{All, AllPairs}
use Rattle.std.specs.List.Sorted.{IsNonDecreasingBy}
use Rattle.lk_tables.specs.declared.heads.Place.{Place}
use Rattle.lk_tables.specs.declared.heads.Place.TheVariants.{Undef, Absolute, Common, Within}
use Rattle.lk_tables.specs.declared.heads.Section.{Section}
use Rattle.lk_tables.specs.declared.heads.Symbol.{Symbol}
use Rattle.lk_tables.specs.declared.objects.Reloc.{Reloc}
use Rattle.lk_tables.specs.declared.spans.Span.{Span}
use Rattle.std.specs.Int.{is_power_of_two}
use Rattle.lk_base.specs.RelocKinds.{is_among, is_lower, moves_bytes}
use Rattle.lk_base.specs.declared.abi.TheConstants.{ALIGN_MAX, NOBITS_MAX, SECTIONS_MAX, SHDR_SIZE, SYM_SIZE, SHF_WRITE, SHF_EXECINSTR, SHF_LINK_ORDER, SHT_NOBITS, STB_LOCAL, STT_NOTYPE}
use Rattle.lk_tables.specs.FileHeader.{section_count}
use Rattle.lk_tables.specs.Heads.{HeadView}
use Rattle.lk_tables.specs.Names.{no_name}
use Rattle.lk_tables.specs.Objects.{GroupView, ObjectView}
use Rattle.lk_tables.specs.Relocations.{width_of, end_of, has_bytes, is_alignment}
use Rattle.lk_tables.specs.Sections.{is_read, is_written, loaded_types, contents_of}
use Rattle.lk_tables.specs.Symbols.{bindings}

-- each element with its number
abbrev pub AllNumbered : {X : Type 0} → (ℕ → X → Type 0) → List X → Type 0
AllNumbered {X} P xs = (k : ℕ) (d : X) → k < length xs → P k (slice_index_or xs k d)

-- of the sections that are written; section 0 never is
abbrev pub AllWritten : List ℕ → (Section → Type 0) → List Section → Type 0
AllWritten b P sections = AllNumbered (λ k s. 0 < k → is_written b s ≡ true → P s) sections

-- of those whose bytes are read
abbrev pub AllRead : List ℕ → (Section → Type 0) → List Section → Type 0
AllRead b P sections = AllNumbered (λ k s. 0 < k → is_read b s ≡ true → P s) sections

-- the bytes of a name stand in the file
abbrev pub IsNameWithin : (file : ℕ) → Span → Type 0
IsNameWithin file name = name.from + name.len ≤ file

-- a section that a symbol names is one of the table, and not section 0
abbrev pub IsPlaceWithin : (count : ℕ) → Place → Type 0
IsPlaceWithin count Undef = Unit {0}
IsPlaceWithin count Absolute = Unit {0}
IsPlaceWithin count Common = Unit {0}
IsPlaceWithin count (Within k) = (0 < k) × (k < count)

-- the value of a symbol in a written section is no greater than the section's size
abbrev pub IsValueWithin : List ℕ → List Section → Symbol → Type 0
IsValueWithin b sections s =
    (k : ℕ) (d : Section) → s.place ≡ Within k → is_written b (slice_index_or sections k d) ≡ true → s.value ≤ (slice_index_or sections k d).size

-- what stands at number 0 of a symbol table
pub record IsNullSymbol (s : Symbol) : Type 0 where
  pub name : s.name ≡ no_name
  pub binding : s.binding ≡ STB_LOCAL
  pub sort : s.sort ≡ STT_NOTYPE
  pub place : s.place ≡ Undef

-- local symbols first: how many they are, symbol 0 among them
pub record HasLocalsFirst (symbols : List Symbol) : Type 0 where
  pub locals : ℕ
  pub most : locals ≤ length symbols
  pub below : AllNumbered (λ k s. k < locals → s.binding ≡ STB_LOCAL) symbols
  pub above : AllNumbered (λ k s. locals ≤ k → s.binding ≢ STB_LOCAL) symbols

-- a sound head
pub record IsHeadInside (b : List ℕ) (head : HeadView) : Type 0 where
  pub counted : length head.sections ≡ section_count b
  pub some : 0 < length head.sections
  pub few : length head.sections ≤ SECTIONS_MAX
  pub table : SHDR_SIZE * length head.sections ≤ length b
  pub symtab : head.symtab < length head.sections
  pub entries : SYM_SIZE * length head.symbols ≤ length b
  pub section_names : All (λ s. IsNameWithin (length b) s.name) head.sections
  pub symbol_names : All (λ s. IsNameWithin (length b) s.name) head.symbols
  pub contents : AllRead b (λ s. s.sh_type ≢ SHT_NOBITS → s.offset + s.size ≤ length b) head.sections
  pub places : All (λ s. IsPlaceWithin (length head.sections) s.place) head.symbols
  pub values : All (IsValueWithin b head.sections) head.symbols
  pub among : All (λ s. is_among bindings s.binding ≡ true) head.symbols
  pub named : All (λ s. s.binding ≢ STB_LOCAL → 0 < s.name.len) head.symbols
  pub first : (d : Symbol) → 0 < length head.symbols → IsNullSymbol (slice_index_or head.symbols 0 d)
  pub ordered : HasLocalsFirst head.symbols
  pub commons : All (λ s. s.place ≡ Common → s.binding ≢ STB_LOCAL) head.symbols

-- 0, which counts as 1, or a power of two that is not too great
pub record IsAlignment (align : ℕ) : Type 0 where
  pub power : align ≢ 0 → is_power_of_two align ≡ true
  pub most : align ≤ ALIGN_MAX

-- a written section of a sound body
pub record IsLinked (count : ℕ) (s : Section) : Type 0 where
  pub kind : is_among loaded_types s.sh_type ≡ true
  pub align : IsAlignment s.align
  pub size : s.size ≤ NOBITS_MAX
  pub apart : bit_and s.flags SHF_WRITE ≢ 0 → bit_and s.flags SHF_EXECINSTR ≡ 0
  pub follows : bit_and s.flags SHF_LINK_ORDER ≢ 0 → s.link < count

-- the addend of an alignment: an even number of bytes
pub record IsPadding (addend : ℤ) : Type 0 where
  pub some : addend ≡ pos (unsigned_abs addend)
  pub even : unsigned_abs addend % 2 ≡ 0

-- a relocation of section s, which is read and has bytes in the file
pub record IsRelocWithin (b : List ℕ) (symbols : ℕ) (s : Section) (r : Reloc) : Type 0 where
  pub read : is_read b s ≡ true
  pub bits : s.sh_type ≢ SHT_NOBITS
  pub symbol : r.symbol < symbols
  pub kind : is_some (width_of (contents_of b s) r) ≡ true
  pub fits : end_of (contents_of b s) r ≤ s.size
  pub addend : is_lower r.kind ≡ true → r.addend ≡ pos 0
  pub padding : is_alignment r ≡ true → IsPadding r.addend

-- the relocations of each section by its number
abbrev pub AreRelocsWithin : List ℕ → HeadView → List (List Reloc) → Type 0
AreRelocsWithin b head relocs =
    AllNumbered (λ k list. (d : Section) → All (IsRelocWithin b (length head.symbols) (slice_index_or head.sections k d)) list) relocs

-- p comes before q in order of offset: where bytes after one of the two may move, the bytes of p end before those of q
abbrev pub IsRelocBefore : (contents : List ℕ) → (p q : Reloc) → Type 0
IsRelocBefore contents p q =
    has_bytes contents p ≡ true → has_bytes contents q ≡ true → (moves_bytes p.kind || moves_bytes q.kind) ≡ true → end_of contents p ≤ q.offset

abbrev pub AreRelocsApart : List ℕ → HeadView → List (List Reloc) → Type 0
AreRelocsApart b head relocs =
    AllNumbered (λ k list. (d : Section) → AllPairs (IsRelocBefore (contents_of b (slice_index_or head.sections k d))) list) relocs

-- a COMMON symbol: its value is its alignment
pub record IsCommonWithin (s : Symbol) : Type 0 where
  pub align : IsAlignment s.value
  pub size : s.size ≤ NOBITS_MAX

-- a group: it is a section, its members are, and its signature stands in the file
pub record IsGroupWithin (b : List ℕ) (count : ℕ) (g : GroupView) : Type 0 where
  pub section : (0 < g.section) × (g.section < count)
  pub members : All (λ k. (0 < k) × (k < count)) g.members
  pub signature : IsNameWithin (length b) g.signature

-- group g stands before group h, and no section is a member of both
pub record IsGroupBefore (g h : GroupView) : Type 0 where
  pub section : g.section < h.section
  pub members : All (λ k. All (λ m. m ≢ k) g.members) h.members

-- a sound body
pub record IsBodyInside (b : List ℕ) (head : HeadView) (object : ObjectView) : Type 0 where
  pub counted : length object.relocs ≡ length head.sections
  pub linked : AllWritten b (IsLinked (length head.sections)) head.sections
  pub first : (d : List Reloc) → slice_index_or object.relocs 0 d ≡ []
  pub relocs : AreRelocsWithin b head object.relocs
  pub ordered : All (IsNonDecreasingBy (λ r. r.offset)) object.relocs
  pub relocs_apart : AreRelocsApart b head object.relocs
  pub commons : All (λ s. s.place ≡ Common → IsCommonWithin s) head.symbols
  pub groups : All (IsGroupWithin b (length head.sections)) object.groups
  pub apart : AllPairs IsGroupBefore object.groups
