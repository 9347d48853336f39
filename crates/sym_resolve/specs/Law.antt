-- What a name is bound to, and the room of COMMON symbols (System V gABI, "Symbol Table").
use Rattle.std.specs.Prelude.{◌≡◌, ◌≢◌, ℕ, ◌<◌, ◌≤◌, ◌⊎◌, max, Bool, true, List, length, map, All, Contains}
use Rattle.std.specs.List.Sorted.{IsStrictlyIncreasing}
use Rattle.lk_tables.specs.declared.commons.BoundCommon.{BoundCommon}
use Rattle.lk_tables.specs.declared.heads.Symbol.{Symbol}
use Rattle.lk_tables.specs.Symbols.{is_common}
use Rattle.lk_tables.specs.Binding.{Offer, Bindings, offered_bindings, offers}
use Rattle.lk_tables.specs.BoundNames.{rank_of_linker}
use Rattle.lk_tables.specs.Files.{File, common_no, file_at, is_visible, symbol_at, symbol_name, symbol_no}
use Rattle.lk_tables.specs.LinkerSymbols.{linker_no}
use Rattle.lk_tables.specs.Ranks.{rank_of}
use Rattle.lk_tables.specs.Targets.{commons_at, rank_at}

-- the rank of an offer of the name, and no offer of the name has a smaller one
pub record IsOffered (all : List Offer) (name : List ℕ) (rank : ℕ) : Type 0 where
  pub offered : Contains all (record { name = name; rank = rank })
  pub least : (o : Offer) → Contains all o → o.name ≡ name → rank ≤ o.rank

-- no file offers the name, and the rank is that of the linker's symbol of it, or of nobody; b is what offers bind
pub record IsLinkers (files : List File) (all : List Offer) (b : Bindings) (name : List ℕ) (rank : ℕ) : Type 0 where
  pub unoffered : (o : Offer) → Contains all o → o.name ≢ name
  pub own : rank ≡ rank_of_linker (linker_no files b name)

-- what a name is bound to: an offer of a file, and if there is none, the linker's symbol of the name
abbrev pub IsBound : List File → List Bool → (entry name : List ℕ) → (rank : ℕ) → Type 0
IsBound files gone entry name rank =
    IsOffered (offers files gone) name rank ⊎ IsLinkers files (offers files gone) (offered_bindings files gone entry) name rank

-- each symbol of a live file that other files see has the rank that its name is bound to
abbrev pub EachIsBound : List File → List Bool → (entry : List ℕ) → Bindings → Type 0
EachIsBound files gone entry b =
    (f i : ℕ) → (file_at files f).live ≡ true → i < length (file_at files f).head.symbols → is_visible (symbol_at (file_at files f) i) ≡ true
    → IsBound files gone entry (symbol_name (file_at files f) i) (rank_at b (symbol_no files f i))

-- symbol i of file f is a COMMON one, and the file is live
pub record IsCommonIn (files : List File) (f i : ℕ) : Type 0 where
  pub live : (file_at files f).live ≡ true
  pub within : i < length (file_at files f).head.symbols
  pub common : is_common (symbol_at (file_at files f) i).place ≡ true

-- one that other files see, and to whose own offer its name is bound
pub record IsBoundCommon (files : List File) (gone : List Bool) (f i : ℕ) : Type 0 where
  pub common : IsCommonIn files f i
  pub visible : is_visible (symbol_at (file_at files f) i) ≡ true
  pub own : IsOffered (offers files gone) (symbol_name (file_at files f) i) (rank_of 1 f i)

-- what a COMMON symbol asks for: its bytes, and its alignment, 0 being read as 1
abbrev pub size_asked : Symbol → ℕ
size_asked s = s.size

abbrev pub align_asked : Symbol → ℕ
align_asked s = max 1 s.value

-- one of the COMMON symbols of a name asks for so much, and none for more
pub record IsMostAsked (files : List File) (name : List ℕ) (asked : Symbol → ℕ) (most : ℕ) : Type 0 where
  pub file : ℕ
  pub symbol : ℕ
  pub common : IsCommonIn files file symbol
  pub named : symbol_name (file_at files file) symbol ≡ name
  pub reached : asked (symbol_at (file_at files file) symbol) ≡ most
  pub greatest : (f i : ℕ) → IsCommonIn files f i → symbol_name (file_at files f) i ≡ name → asked (symbol_at (file_at files f) i) ≤ most

-- a bound COMMON symbol of file f, with its number among the sections and the greatest room that is asked for under its name
pub record HasItsRoom (files : List File) (gone : List Bool) (f : ℕ) (c : BoundCommon) : Type 0 where
  pub file_is : c.file ≡ f
  pub bound : IsBoundCommon files gone f c.symbol
  pub section_is : c.section ≡ common_no files f c.symbol
  pub size_is : IsMostAsked files (symbol_name (file_at files f) c.symbol) size_asked c.size
  pub align_is : IsMostAsked files (symbol_name (file_at files f) c.symbol) align_asked c.align

-- the symbols of file f that a binding gives room to
abbrev pub common_symbols : Bindings → ℕ → List ℕ
common_symbols b f = map (λ c. c.symbol) (commons_at b.commons f)

-- the bound COMMON symbols get room: no others, each of them, and each once, in order
pub record GetRoom (files : List File) (gone : List Bool) (b : Bindings) : Type 0 where
  pub only : (f : ℕ) → All (HasItsRoom files gone f) (commons_at b.commons f)
  pub each : (f i : ℕ) → IsBoundCommon files gone f i → Contains (common_symbols b f) i
  pub once : (f : ℕ) → IsStrictlyIncreasing (common_symbols b f)

-- the law of a binding: each symbol, the entry of this name, and the COMMON symbols
pub record IsLawful (files : List File) (gone : List Bool) (name : List ℕ) (b : Bindings) : Type 0 where
  pub symbols : EachIsBound files gone name b
  pub entry : IsBound files gone name name b.entry
  pub commons : GetRoom files gone b
