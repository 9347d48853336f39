-- Which files take part in a link: the objects of the command, and each member of an archive whose offer of a name is the first,
-- where one of those that take part, or the command, asks for the name. Objects of the command come before members, wherever on the command the
-- archive stands, and members in the order of the files. An undefined weak symbol brings in no member (System V gABI, "Symbol Table").
use Rattle.std.specs.Prelude.{◌≡◌, ℕ, zero, suc, ◌<◌, ◌&&◌, ◌||◌, ◌==◌, not, nat_lt, Bool, true, false, if◌then◌else◌, List, [], ◌∷◌, length, map, slice_index_or, flat_map, Contains}
use Rattle.std.specs.List.{list_any, range_with_len}
use Rattle.lk_tables.specs.declared.heads.Symbol.{Symbol}
use Rattle.lk_tables.specs.Symbols.{is_undef}
use Rattle.lk_tables.specs.Files.{File, file_at, symbol_at, symbol_name}
use Rattle.lk_base.specs.declared.abi.TheConstants.{STB_GLOBAL, STB_GNU_UNIQUE}
use Rattle.lk_tables.specs.Binding.{Offer, is_offer, class_of, least_rank}
use Rattle.lk_tables.specs.Ranks.{rank_of, class_of_rank, file_of}
use Rattle.file_live.specs.declared.claims.TheConstants.{MEMBER_CLASS}

-- each offer of a member comes after all offers of the command's objects
abbrev pub early_class : File → Symbol → ℕ
early_class file s = if file.member then MEMBER_CLASS else class_of s

abbrev pub early_rank : List File → (f i : ℕ) → ℕ
early_rank files f i = rank_of (early_class (file_at files f) (symbol_at (file_at files f) i)) f i

-- the offers of symbol i of file f, of a file, and of all files, in order of file and symbol
unfoldable pub early_offer_at : List File → (f i : ℕ) → List Offer
early_offer_at files f i = if is_offer (symbol_at (file_at files f) i)
    then record { name = symbol_name (file_at files f) i; rank = early_rank files f i } ∷ [] else []

unfoldable pub early_offers_in : List File → ℕ → List Offer
early_offers_in files f = flat_map (early_offer_at files f) (range_with_len 0 (length (file_at files f).head.symbols))

unfoldable pub early_offers : List File → List Offer
early_offers files = flat_map (early_offers_in files) (range_with_len 0 (length files))

-- the rank of the first offer of a name: one of an object of the command, else of the first member that offers it
unfoldable pub early : List File → List ℕ → ℕ
early files name = least_rank name (early_offers files)

-- an undefined symbol of binding GLOBAL or GNU_UNIQUE asks for its name
abbrev pub asks : Symbol → Bool
asks s = is_undef s.place && (s.binding == STB_GLOBAL || s.binding == STB_GNU_UNIQUE)

-- the rank is of an offer of the member g
abbrev pub is_of_member : ℕ → ℕ → Bool
is_of_member g rank = class_of_rank rank == MEMBER_CLASS && file_of rank == g

-- symbol i of file f, and file f, ask for a name whose first offer is of the member g
unfoldable pub pulls_by : List File → (f g i : ℕ) → Bool
pulls_by files f g i = asks (symbol_at (file_at files f) i) && is_of_member g (early files (symbol_name (file_at files f) i))

unfoldable pub pulls : List File → (f g : ℕ) → Bool
pulls files f g = list_any (pulls_by files f g) (range_with_len 0 (length (file_at files f).head.symbols))

-- the command asks for one of these names, and its first offer is of the member g
unfoldable pub is_asked : (undefined : List (List ℕ)) → List File → (g : ℕ) → Bool
is_asked undefined files g = list_any (λ name. is_of_member g (early files name)) undefined

-- an object of the command
abbrev pub is_command : List File → ℕ → Bool
is_command files f = nat_lt f (length files) && not (file_at files f).member

-- the objects of the command, the members that it asks for, and what they pull in so many rounds
unfoldable pub live_in : (undefined : List (List ℕ)) → List File → (rounds : ℕ) → ℕ → Bool
live_in undefined files zero f = is_command files f || is_asked undefined files f
live_in undefined files (suc n) f =
    live_in undefined files n f || list_any (λ e. live_in undefined files n e && pulls files e f) (range_with_len 0 (length files))

-- a round that adds no file is the last that could, so there are no more such rounds than files
unfoldable pub is_live : (undefined : List (List ℕ)) → List File → ℕ → Bool
is_live undefined files f = live_in undefined files (length files) f

-- by number, whether a file takes part where the command asks for these names
unfoldable pub live_of : (undefined : List (List ℕ)) → List File → List Bool
live_of undefined files = map (is_live undefined files) (range_with_len 0 (length files))

-- a set of files with the command's objects, with each member whose offer of a name that the command asks for is the first, and with each
-- member that a file of the set pulls
pub record IsClosedSet (undefined : List (List ℕ)) (files : List File) (s : ℕ → Bool) : Type 0 where
  pub commands : (f : ℕ) → f < length files → (file_at files f).member ≡ false → s f ≡ true
  pub asked : (name : List ℕ) (g : ℕ) → Contains undefined name → is_of_member g (early files name) ≡ true → s g ≡ true
  pub pulled : (f g : ℕ) → s f ≡ true → pulls files f g ≡ true → s g ≡ true

-- the least such set
pub record IsLive (undefined : List (List ℕ)) (files : List File) (live : List Bool) : Type 0 where
  pub wide : length live ≡ length files
  pub closed : IsClosedSet undefined files (λ f. slice_index_or live f false)
  pub least : (s : ℕ → Bool) → IsClosedSet undefined files s → (g : ℕ) → slice_index_or live g false ≡ true → s g ≡ true
