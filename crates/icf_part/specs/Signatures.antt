-- What the passes over items compare: rows of numbers, as bytes.
use Rattle.std.specs.Prelude.{◌≡◌, ℕ, ◌<◌, ◌≤◌, ◌-◌, ◌==◌, ◌^◌, ℤ, pos, negsuc, Bool, true, false, Option, Some, None, List, [], ◌∷◌, ◌++◌, length, map, flat_map, find, slice_index, slice_index_or, nat_lt, if◌then◌else◌, All, Result, IfOk}
use Rattle.std.specs.Int.{w32, w64, to_le_bytes}
use Rattle.std.specs.Global.{Vec}
use Rattle.std.specs.List.{range_with_len}
use Rattle.std.specs.declared.ops.Range.{Range}
use Rattle.lk_base.specs.declared.defects.LinkStop.{LinkStop}
pub use Rattle.link_sections.specs.SameTargets.{signed_words}
use Rattle.link_sections.specs.declared.targets.Target.{Target}
use Rattle.link_sections.specs.declared.targets.Target.TheVariants.{Section, Piece, Number, Zero, Linker, Unbound}
use Rattle.link_sections.specs.declared.fold_items.FoldReloc.{FoldReloc}
use Rattle.link_sections.specs.FoldItems.{FoldFrame, FoldItem, sections_of}
use Rattle.icf_part.specs.Folding.{item_at}

-- their contents and their output sections
abbrev pub bytes_of : FoldItem → List ℕ
bytes_of i = i.bytes

abbrev pub output_of : FoldItem → List ℕ
output_of i = i.output

-- the place in the list of a section
unfoldable pub place_of : (sections : List ℕ) → (section : ℕ) → Option ℕ
place_of sections section = find (λ a. slice_index sections a == section) (range_with_len 0 (length sections))

-- a section that is an item counts by its place alone, which is no part of these
abbrev pub place_words : Option ℕ → (section : ℕ) → List ℕ
place_words None section = 0 ∷ section ∷ 0 ∷ []
place_words (Some a) section = 1 ∷ 0 ∷ 0 ∷ []

abbrev pub target_words : (sections : List ℕ) → Option Target → List ℕ
target_words sections None = 0 ∷ 0 ∷ 0 ∷ 0 ∷ 0 ∷ 0 ∷ 0 ∷ []
target_words sections (Some (Number n)) = 1 ∷ n ∷ 0 ∷ 0 ∷ 0 ∷ 0 ∷ 0 ∷ []
target_words sections (Some Zero) = 2 ∷ 0 ∷ 0 ∷ 0 ∷ 0 ∷ 0 ∷ 0 ∷ []
target_words sections (Some (Linker n)) = 3 ∷ n ∷ 0 ∷ 0 ∷ 0 ∷ 0 ∷ 0 ∷ []
target_words sections (Some Unbound) = 4 ∷ 0 ∷ 0 ∷ 0 ∷ 0 ∷ 0 ∷ 0 ∷ []
target_words sections (Some (Section section offset rest)) = 5 ∷ offset ∷ (signed_words rest ++ place_words (place_of sections section) section)
target_words sections (Some (Piece pool piece offset rest)) = 6 ∷ offset ∷ (signed_words rest ++ 0 ∷ pool ∷ piece ∷ [])

abbrev pub flag_of : Bool → ℕ
flag_of true = 1
flag_of false = 0

unfoldable pub site_words : FoldReloc → List ℕ
site_words r = r.offset ∷ r.kind ∷ flag_of r.is_section_symbol ∷ signed_words r.addend

-- an FDE and its CIE, the bytes of each after their number
unfoldable pub frame_words : FoldFrame → List ℕ
frame_words f = length f.bytes ∷ length f.cie ∷ f.offset ∷ f.others ∷ f.shared ∷ (signed_words f.rest ++ (f.bytes ++ f.cie))

-- what must be equal of two items, whatever is folded; `bytes` and `output` are the numbers of an item's contents and its output section
abbrev pub head_words : (bytes output : ℕ) → FoldItem → List ℕ
head_words bytes output i = bytes ∷ output ∷ i.flags ∷ i.sh_type ∷ i.align ∷ i.own ∷ length i.frames ∷ []

unfoldable pub key_words : (bytes output : ℕ) → FoldItem → List ℕ
key_words bytes output i = (head_words bytes output i ++ flat_map frame_words i.frames) ++ flat_map site_words i.relocs

abbrev pub key_at : List FoldItem → (bytes outputs : List ℕ) → (a : ℕ) → List ℕ
key_at items bytes outputs a = key_words (slice_index bytes a) (slice_index outputs a) (item_at items a)

-- and what else is compared before the first turn: the number of an item's key, to how many items it leads, and its targets
abbrev pub rest_words_of : (sections : List ℕ) → FoldReloc → List ℕ
rest_words_of sections r = target_words sections r.target

unfoldable pub rest_words : (sections : List ℕ) → (key count : ℕ) → FoldItem → List ℕ
rest_words sections key count i = key ∷ count ∷ flat_map (rest_words_of sections) i.relocs

abbrev pub rest_at : List FoldItem → (keys : List ℕ) → (ends : List (List ℕ)) → (a : ℕ) → List ℕ
rest_at items keys ends a = rest_words (sections_of items) (slice_index keys a) (length (slice_index_or ends a [])) (item_at items a)

-- the places of the items for which an item's relocations stand, in order
abbrev pub place_list : Option ℕ → List ℕ
place_list None = []
place_list (Some a) = a ∷ []

abbrev pub target_places : (sections : List ℕ) → Option Target → List ℕ
target_places sections None = []
target_places sections (Some (Number n)) = []
target_places sections (Some Zero) = []
target_places sections (Some (Linker n)) = []
target_places sections (Some Unbound) = []
target_places sections (Some (Section section offset rest)) = place_list (place_of sections section)
target_places sections (Some (Piece pool piece offset rest)) = []

abbrev pub reloc_places : (sections : List ℕ) → FoldReloc → List ℕ
reloc_places sections r = target_places sections r.target

unfoldable pub places : (sections : List ℕ) → FoldItem → List ℕ
places sections i = flat_map (reloc_places sections) i.relocs

unfoldable pub all_places : List FoldItem → List (List ℕ)
all_places items = map (places (sections_of items)) items

-- the places to which the items from one on and before another lead
abbrev pub places_from : (sections : List ℕ) → List FoldItem → (start end : ℕ) → List (List ℕ)
places_from sections items start end = map (λ a. places sections (item_at items a)) (range_with_len start (end - start))

-- what is found for a piece: the places of its items, in parts
abbrev pub IsPlacesPart : (sections : List ℕ) → List FoldItem → Range ℕ → Result (Vec (List (List ℕ))) LinkStop → Type 0
IsPlacesPart sections items piece r = IfOk r (λ parts. flat_map (λ part. part) parts.items ≡ places_from sections items piece.start piece.end)

-- the classes of the items to which an item leads
unfoldable pub end_classes : (classes : List ℕ) → (ends : List (List ℕ)) → (a : ℕ) → List ℕ
end_classes classes ends a = map (slice_index classes) (slice_index_or ends a [])

-- numbers as bytes: one byte of a number below 254, four bytes after 254, eight after 255
unfoldable pub word_bytes : ℕ → List ℕ
word_bytes n = if nat_lt n 254 then n ∷ [] else (if nat_lt n (2 ^ 32) then 254 ∷ to_le_bytes w32 n else 255 ∷ to_le_bytes w64 n)

unfoldable pub row_bytes : List ℕ → List ℕ
row_bytes words = flat_map word_bytes words

abbrev pub AllFit : List ℕ → Type 0
AllFit words = All (λ w. w < 2 ^ 64) words

-- a row for each of the items from one on and before another
pub record AreRowsFrom (words : ℕ → List ℕ) (start end : ℕ) (rows : List (List ℕ)) : Type 0 where
  pub rows_are : rows ≡ map (λ a. row_bytes (words a)) (range_with_len start (end - start))
  pub fit : (a : ℕ) → start ≤ a → a < end → AllFit (words a)

-- what is made for a piece: a list of rows for its items, in parts
abbrev pub IsRowsPart : (words : ℕ → List ℕ) → Range ℕ → Result (Vec (List (List ℕ))) LinkStop → Type 0
IsRowsPart words piece r = IfOk r (λ parts. AreRowsFrom words piece.start piece.end (flat_map (λ part. part) parts.items))

-- a row for each of n items
pub record AreRows (words : ℕ → List ℕ) (n : ℕ) (rows : List (List ℕ)) : Type 0 where
  pub rows_are : rows ≡ map (λ a. row_bytes (words a)) (range_with_len 0 n)
  pub fit : (a : ℕ) → a < n → AllFit (words a)
