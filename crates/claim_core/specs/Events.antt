-- Events on a row of words: what a list of them leads to, which words offers can lead to, and the least rank on offer for a word.
use Rattle.std.specs.Prelude.{◌≡◌, ℕ, ◌<◌, ◌≤◌, ◌⊎◌, List, [], ◌∷◌, length, replicate, min, slice_index, slice_set, All, Contains}
use Rattle.claim_core.specs.declared.events.Event.{Event}
use Rattle.claim_core.specs.declared.events.TheConstants.{NONE}

-- the event of a word and a rank
abbrev pub event : ℕ → ℕ → Event
event word rank = record { word = word; rank = rank }

-- a row of words that nothing has claimed
abbrev pub none_of : ℕ → List ℕ
none_of count = replicate count NONE

-- an event lowers its word to its rank, where the rank is smaller
abbrev pub lowered : List ℕ → Event → List ℕ
lowered words e = slice_set words e.word (min (slice_index words e.word) e.rank)

-- the words after a list of events, each done in turn
abbrev pub after : List ℕ → List Event → List ℕ
after words [] = words
after words (e ∷ es) = after (lowered words e) es

-- each event's word is one of the row's
abbrev pub AllInRow : ℕ → List Event → Type 0
AllInRow count events = All (λ e. e.word < count) events

-- The words are reached by the offers: a list of events, each of them one of the offers, leads to them from all NONE
pub record IsReached (offers : List Event) (words : List ℕ) : Type 0 where
  pub events : List Event
  pub offered : All (Contains offers) events
  pub leads : after (none_of (length words)) events ≡ words

-- NONE, or a rank on offer for the word
abbrev pub IsOffered : List Event → ℕ → ℕ → Type 0
IsOffered offers word rank = (rank ≡ NONE) ⊎ Contains offers (event word rank)

-- each word is NONE or a rank on offer for it
abbrev pub EachIsOffered : List Event → List ℕ → Type 0
EachIsOffered offers words = (word : ℕ) → word < length words → IsOffered offers word (slice_index words word)

-- the least rank on offer for the word, or NONE where there is none
pub record IsLeast (offers : List Event) (word rank : ℕ) : Type 0 where
  pub offered : IsOffered offers word rank
  pub least : (e : Event) → Contains offers e → e.word ≡ word → rank ≤ e.rank

-- each word is the least rank on offer for it
abbrev pub EachIsLeast : List Event → List ℕ → Type 0
EachIsLeast offers words = (word : ℕ) → word < length words → IsLeast offers word (slice_index words word)

-- the events are the offers, each at least once, in any order
abbrev pub DrawsEach : List Event → List Event → Type 0
DrawsEach offers events = All (Contains offers) events × All (Contains events) offers

-- From words that are all NONE, and by events that are some offers, each at least once, each word ends as its least offer
abbrev pub EndsAtLeast : (start : List ℕ) → List Event → (end : List ℕ) → Type 0
EndsAtLeast start events end = (offers : List Event) → start ≡ none_of (length start) → DrawsEach offers events → EachIsLeast offers end
