-- The slots of a text table. A slot is one word: NONE, or in its lower half the number of the text that it holds and in its
-- upper half the least number of an equal text so far.
use Rattle.std.specs.Prelude.{◌≡◌, ◌≢◌, ℕ, ◌+◌, ◌*◌, ◌/◌, ◌%◌, ◌^◌, ◌<◌, ◌≤◌, ◌⊎◌, List, length, slice_index}
use Rattle.intern_race.specs.Hash.{hash_of}
use Rattle.intern_race.specs.Texts.{text_at}

-- an empty slot's word
abbrev pub none : ℕ
none = 0xffffffffffffffff

-- the number of the text that is held in a slot with this word
unfoldable pub holder : ℕ → ℕ
holder w = w % 2 ^ 32

-- the least number of an equal text so far
unfoldable pub least : ℕ → ℕ
least w = w / 2 ^ 32

-- the word of a slot
unfoldable pub word_of : (least holder : ℕ) → ℕ
word_of f h = f * 2 ^ 32 + h

-- The slot that a search for a text meets after so many others: it begins at the text's home, which is its hash modulo the
-- number of slots, and goes on by one slot and round the end
unfoldable pub slot_on : (slots : ℕ) → (text : List ℕ) → (far : ℕ) → ℕ
slot_on slots text far = (hash_of text + far) % slots

-- how many slots a table for so many texts has: the least power of two that is at least 2 and at least twice as many
pub record IsSlotCount (texts slots : ℕ) : Type 0 where
  pub bits : ℕ
  pub power : slots ≡ 2 ^ bits
  pub some : 2 ≤ slots
  pub enough : 2 * texts ≤ slots
  pub lowest : (slots ≡ 2) ⊎ (slots < 4 * texts)

-- a slot holds the text of this number
pub record Holds (words : List ℕ) (slot number : ℕ) : Type 0 where
  pub filled : slice_index words slot ≢ none
  pub holds : holder (slice_index words slot) ≡ number

-- a slot is filled by another text than this one
pub record IsOther (texts : List (List ℕ)) (words : List ℕ) (slot : ℕ) (text : List ℕ) : Type 0 where
  pub within : slot < length words
  pub filled : slice_index words slot ≢ none
  pub other : text_at texts (holder (slice_index words slot)) ≢ text

-- The text of a number stands in its place in a slot: each slot that a search for it meets before this one holds another
pub record IsInPlace (texts : List (List ℕ)) (words : List ℕ) (slot number : ℕ) : Type 0 where
  pub within : number < length texts
  pub far : ℕ
  pub short : far < length words
  pub ends : slot_on (length words) (text_at texts number) far ≡ slot
  pub passed : (e : ℕ) → e < far → IsOther texts words (slot_on (length words) (text_at texts number) e) (text_at texts number)

-- the least number of a slot's word is that of a text equal to the one held
abbrev pub HasEqual : (texts : List (List ℕ)) → (word : ℕ) → Type 0
HasEqual texts word = (least word < length texts) × (text_at texts (least word) ≡ text_at texts (holder word))

-- a filled slot holds a text in its place, and has the number of an equal one
pub record IsHeld (texts : List (List ℕ)) (words : List ℕ) (slot word : ℕ) : Type 0 where
  pub place : IsInPlace texts words slot (holder word)
  pub equal : HasEqual texts word

-- each slot is empty or filled in this way
abbrev pub AreSlots : (texts : List (List ℕ)) → (words : List ℕ) → Type 0
AreSlots texts words = (slot : ℕ) → slot < length words → (slice_index words slot ≡ none) ⊎ IsHeld texts words slot (slice_index words slot)
