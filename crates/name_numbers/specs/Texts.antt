-- Texts by number: the number of a text is the index of the first that is equal to it.
use Rattle.std.specs.Prelude.{ℕ, List, length, map}
use Rattle.std.specs.List.{range_with_len}
use Rattle.intern_race.specs.Hash.{hash_of}
pub use Rattle.intern_race.specs.Texts.{lent_texts, text_at}
unfoldable pub use Rattle.intern_race.specs.Texts.{text_number, text_numbers}
use Rattle.name_numbers.specs.Keys.{KeyView, key_of}

-- the hash and the number of text i
abbrev pub hash_at : List (List ℕ) → ℕ → ℕ
hash_at texts i = hash_of (text_at texts i)

abbrev pub number_at : List (List ℕ) → ℕ → ℕ
number_at texts i = text_number texts (text_at texts i)

-- the keys of texts, each with its index
unfoldable pub text_keys : List (List ℕ) → List KeyView
text_keys texts = map (λ i. key_of (text_at texts i) i) (range_with_len 0 (length texts))
