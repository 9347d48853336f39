-- Classes of items that are equal in what is compared: a class's number is the place of its first item.
use Rattle.std.specs.Prelude.{◌≡◌, ℕ, ◌<◌, ◌≤◌, List, [], length, map, flat_map, slice_index, slice_index_or, Contains}
use Rattle.link_sections.specs.FoldItems.{FoldItem, sections_of}
use Rattle.name_numbers.specs.Texts.{text_numbers}
use Rattle.icf_part.specs.Folding.{HoldsAll, Pair, item_at, pair}
use Rattle.icf_part.specs.Signatures.{bytes_of, end_classes, key_at, output_of, rest_words_of}

-- two of n items have one number exactly where what is compared of them is equal
pub record IsNumbering (words : ℕ → List ℕ) (n : ℕ) (c : List ℕ) : Type 0 where
  pub wide : length c ≡ n
  pub tells : (a b : ℕ) → a < n → b < n → slice_index c a ≡ slice_index c b → words a ≡ words b
  pub same : (a b : ℕ) → a < n → b < n → words a ≡ words b → slice_index c a ≡ slice_index c b
  pub within : (a : ℕ) → a < n → slice_index c a < n
  pub own : (a : ℕ) → a < n → words (slice_index c a) ≡ words a
  pub least : (a b : ℕ) → a < n → b < n → words b ≡ words a → slice_index c a ≤ b

-- each of n items has the number of the first of its class
pub record AreFirsts (n : ℕ) (c : List ℕ) : Type 0 where
  pub wide : length c ≡ n
  pub within : (a : ℕ) → a < n → slice_index c a < n
  pub own : (a : ℕ) → a < n → slice_index c (slice_index c a) ≡ slice_index c a
  pub least : (a b : ℕ) → a < n → b < n → slice_index c b ≡ slice_index c a → slice_index c a ≤ b

-- what is compared of item a: its key, and the rest
abbrev pub key : List FoldItem → (a : ℕ) → List ℕ
key items a = key_at items (text_numbers (map bytes_of items)) (text_numbers (map output_of items)) a

-- classes on the way: each is of one key and one rest, and no congruence pairs items of two
pub record IsRefining (items : List FoldItem) (c : List ℕ) : Type 0 where
  pub wide : length c ≡ length items
  pub keys : (a b : ℕ) → a < length items → b < length items → slice_index c a ≡ slice_index c b → key items a ≡ key items b
  pub rests : (a b : ℕ) → a < length items → b < length items → slice_index c a ≡ slice_index c b →
      flat_map (rest_words_of (sections_of items)) (item_at items a).relocs ≡ flat_map (rest_words_of (sections_of items)) (item_at items b).relocs
  pub outer : HoldsAll items c

-- each class leads to one class in each place
pub record IsStable (ends : List (List ℕ)) (c : List ℕ) : Type 0 where
  pub stays : (a b : ℕ) → a < length ends → b < length ends → slice_index c a ≡ slice_index c b → end_classes c ends a ≡ end_classes c ends b

-- classes join the items of each pair
abbrev pub Joins : List Pair → (c : List ℕ) → Type 0
Joins pairs c = (a b : ℕ) → Contains pairs (pair a b) → slice_index c a ≡ slice_index c b

-- pairs of items that lead to equal classes in each place, whatever classes join the pairs
pub record AreCarried (ends : List (List ℕ)) (pairs : List Pair) : Type 0 where
  pub one : (a b : ℕ) → Contains pairs (pair a b) → a < length ends
  pub two : (a b : ℕ) → Contains pairs (pair a b) → b < length ends
  pub leads : (c : List ℕ) → Joins pairs c → (a b : ℕ) → Contains pairs (pair a b) → end_classes c ends a ≡ end_classes c ends b

-- classes by their first items, split no further than it takes that each leads to one class in each place
pub record IsRefined (ends : List (List ℕ)) (start last : List ℕ) : Type 0 where
  pub firsts : AreFirsts (length ends) last
  pub finer : (a b : ℕ) → a < length ends → b < length ends → slice_index last a ≡ slice_index last b → slice_index start a ≡ slice_index start b
  pub stable : IsStable ends last
  pub outer : (pairs : List Pair) → AreCarried ends pairs → Joins pairs start → Joins pairs last

-- where the items lead: to items, and those of one class to equally many
pub record AreEnds (ends : List (List ℕ)) (start : List ℕ) : Type 0 where
  pub within : (a k : ℕ) → k < length (slice_index_or ends a []) → slice_index (slice_index_or ends a []) k < length ends
  pub alike : (a b : ℕ) → a < length ends → b < length ends → slice_index start a ≡ slice_index start b → length (slice_index_or ends a []) ≡ length (slice_index_or ends b [])

-- by label, the first of the items from one on that has it
pub record AreFirstBy (labels : List ℕ) (from : ℕ) (firsts : List ℕ) : Type 0 where
  pub within : (a : ℕ) → from ≤ a → a < length labels → slice_index firsts (slice_index labels a) < length labels
  pub least : (a : ℕ) → from ≤ a → a < length labels → slice_index firsts (slice_index labels a) ≤ a
  pub own : (a : ℕ) → from ≤ a → a < length labels → slice_index labels (slice_index firsts (slice_index labels a)) ≡ slice_index labels a

-- labels by their first items
pub record AreFirstItems (n : ℕ) (labels last : List ℕ) : Type 0 where
  pub firsts : AreFirsts n last
  pub same : (a b : ℕ) → a < n → b < n → slice_index labels a ≡ slice_index labels b → slice_index last a ≡ slice_index last b
  pub tells : (a b : ℕ) → a < n → b < n → slice_index last a ≡ slice_index last b → slice_index labels a ≡ slice_index labels b
