-- Texts by number: those that were added one by one, and those of bytes that are cut at ends.
use Rattle.std.specs.Prelude.{◌≡◌, ℕ, ◌+◌, ◌-◌, ◌^◌, ◌≤◌, ◌<◌, List, [], ◌∷◌, ◌++◌, length, map, flat_map, take, drop, slice_index, slice_index_or}
use Rattle.std.specs.Borrow.{Bor}
use Rattle.std.specs.List.{range_with_len, position_or_len}
use Rattle.std.specs.Str.{bytes_eq}
use Rattle.intern_race.specs.Hash.{hash_of, tag_of}
use Rattle.intern_race.specs.declared.texts.Cut.{Cut}
use Rattle.intern_race.specs.declared.texts.Cut.TheVariants.{At, Whole}
use Rattle.intern_race.specs.declared.texts.Row.{Row}

-- the texts that are lent
abbrev pub lent_texts : List (Bor (List ℕ)) → List (List ℕ)
lent_texts list = map (λ text. text.now) list

-- text number i, or the empty one if there are not so many
abbrev pub text_at : List (List ℕ) → ℕ → List ℕ
text_at texts i = slice_index_or texts i []

-- where the k-th of the texts begins that bytes are cut into at these ends: at the end of the one before it
abbrev pub start_of : (ends : List ℕ) → (k : ℕ) → ℕ
start_of ends k = slice_index (0 ∷ ends) k

-- its bytes: they stop where the bytes do
unfoldable pub cut_text : (bytes ends : List ℕ) → (k : ℕ) → List ℕ
cut_text bytes ends k = take (slice_index ends k - start_of ends k) (drop (start_of ends k) bytes)

-- the tag of text i, and a list of those of the first texts
abbrev pub tag_at : List (List ℕ) → ℕ → ℕ
tag_at texts i = tag_of (hash_of (text_at texts i))

abbrev pub AreTags : (texts : List (List ℕ)) → (tags : List ℕ) → Type 0
AreTags texts tags = (i : ℕ) → i < length tags → slice_index tags i ≡ tag_at texts i

-- the texts that bytes are cut into, one for each end
unfoldable pub cut_texts : (bytes ends : List ℕ) → List (List ℕ)
cut_texts bytes ends = map (cut_text bytes ends) (range_with_len 0 (length ends))

-- the index of the first of the texts that is this one, or how many there are if none is
unfoldable pub text_number : List (List ℕ) → List ℕ → ℕ
text_number texts text = position_or_len (λ t. bytes_eq t text) texts

-- the number of each text, in order
unfoldable pub text_numbers : List (List ℕ) → List ℕ
text_numbers texts = map (text_number texts) texts

-- the texts of a row, and of many
abbrev pub texts_in : Cut → List (List ℕ)
texts_in (Whole text) = text.now ∷ []
texts_in (At bytes ends) = cut_texts bytes.now ends.now

abbrev pub row_texts : List Row → List (List ℕ)
row_texts rows = flat_map (λ (row : Row). texts_in row.cut) rows

abbrev pub all_texts : List (Bor (List ℕ)) → List Row → List (List ℕ)
all_texts singles rows = lent_texts singles ++ row_texts rows

-- a row: how many texts of rows there are before it
abbrev pub no_row : Row
no_row = record { before = 0; cut = Whole (record { ref_ptr = (0, 0); now = [] }) }

-- each row knows how many texts are before it
abbrev pub AreCounted : List Row → Type 0
AreCounted rows = (r : ℕ) → r < length rows → (slice_index_or rows r no_row).before ≡ length (row_texts (take r rows))

-- the texts can be counted, and the rows' are
pub record AreKept (singles : List (Bor (List ℕ))) (rows : List Row) (count : ℕ) : Type 0 where
  pub counted : AreCounted rows
  pub count_is : count ≡ length (row_texts rows)
  pub most : length singles + count < 2 ^ 64

-- text i of the rows stands in this one
pub record IsRowOf (rows : List Row) (i r : ℕ) : Type 0 where
  pub within : r < length rows
  pub from : (slice_index_or rows r no_row).before ≤ i
  pub below : i - (slice_index_or rows r no_row).before < length (texts_in (slice_index_or rows r no_row).cut)
