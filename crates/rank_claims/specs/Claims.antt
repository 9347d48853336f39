-- A table of claims and a seat at it as callers see them, what each call does to a seat, and what the closed table gives.
use Rattle.std.specs.Prelude.{◌≡◌, ℕ, ◌≤◌, List, [], ◌∷◌, ◌++◌, length, min, slice_index, slice_index_or, slice_set, All, Contains}
use Rattle.atomic_table.specs.Seated.{TableId}
use Rattle.claim_core.specs.declared.events.Event.{Event}
use Rattle.claim_core.specs.Events.{event, none_of, after, IsReached, IsOffered, EachIsOffered, EachIsLeast, DrawsEach}
use Rattle.rank_claims.specs.declared.rule.OwnStep.{OwnStep}
use Rattle.rank_claims.specs.declared.rule.OwnStep.TheVariants.{Claimed, Read, SplitOff}
use Rattle.seat_views.specs.Shares.{half_of, halved}

-- a table: which one it is, how many words it has, and the offers that it was opened for
pub record TableView : Type 0 where
  pub table : TableId
  pub words : ℕ
  pub offers : List Event

-- A seat: its table, the offers, for each word the least number that it knows the word not to be above, its own steps in order, and
-- its share of the table, as parts: k is a part that is the whole halved k times. The shares of all seats are the whole table
pub record SeatView : Type 0 where
  pub table : TableId
  pub offers : List Event
  pub known : List ℕ
  pub steps : List OwnStep
  pub share : List ℕ

-- the seat is one of this table's: it has the table's offers, and knows of each of its words
pub record SitsAt (t : TableView) (s : SeatView) : Type 0 where
  pub table : s.table ≡ t.table
  pub offers : s.offers ≡ t.offers
  pub wide : length s.known ≡ t.words

-- the offer at a place of a list
abbrev pub offer_at : List Event → ℕ → Event
offer_at offers i = slice_index_or offers i (event 0 0)

-- the seat that a new table comes with: it has the whole of it
abbrev pub first_seat : TableView → SeatView
first_seat t = record { table = t.table; offers = t.offers; known = none_of t.words; steps = []; share = 0 ∷ [] }

-- The seat after its claim of an offer, on a word that held `found`
abbrev pub after_claim : SeatView → Event → ℕ → SeatView
after_claim s e found = record s { known = slice_set s.known e.word (min found e.rank); steps = s.steps ++ Claimed e found ∷ [] }

-- The seat after its look at a word that held `found`
abbrev pub after_look : SeatView → ℕ → ℕ → SeatView
after_look s word found = record s { known = slice_set s.known word found; steps = s.steps ++ Read word found ∷ [] }

-- the seat after another was split off it, which is a step of its own, and took half of a part
abbrev pub after_split : SeatView → SeatView
after_split s = record s { steps = s.steps ++ SplitOff ∷ []; share = halved s.share }

-- the seat that is split from this one: it knows the same, has made no step, and has the other half
abbrev pub newcomer : SeatView → SeatView
newcomer s = record s { steps = []; share = half_of s.share }

-- place by place the lesser of two rows' numbers, as far as both go
abbrev pub lesser_of : List ℕ → List ℕ → List ℕ
lesser_of [] ys = []
lesser_of (x ∷ xs) [] = []
lesser_of (x ∷ xs) (y ∷ ys) = min x y ∷ lesser_of xs ys

-- the seat that another was joined into
abbrev pub joined : SeatView → SeatView → SeatView
joined s other = record s { known = lesser_of s.known other.known; steps = s.steps ++ other.steps; share = s.share ++ other.share }

-- What a step may find at a word: NONE or a rank on offer for it, and no more than the seat knew
abbrev pub IsFound : SeatView → ℕ → ℕ → Type 0
IsFound s word found = IsOffered s.offers word found × (found ≤ slice_index s.known word)

-- the offer was claimed by one of these steps
abbrev pub HasClaimed : List OwnStep → Event → Type 0
HasClaimed steps e = (found : ℕ) × Contains steps (Claimed e found)

-- each offer was claimed by one of these steps
abbrev pub HasClaimedEach : List Event → List OwnStep → Type 0
HasClaimedEach offers steps = All (HasClaimed steps) offers

-- What the words of a table are that was closed with a seat
pub record IsClosing (t : TableView) (s : SeatView) (words : List ℕ) : Type 0 where
  pub one_list : s.offers ≡ t.offers
  pub count : length words ≡ t.words
  -- they are a state that events of the offers lead to
  pub reached : IsReached t.offers words
  pub offered : EachIsOffered t.offers words
  pub at_most_known : (word : ℕ) → slice_index words word ≤ slice_index s.known word
  -- if the seat has claimed each offer, or was joined by those that did, the words are the least offers
  pub least : HasClaimedEach t.offers s.steps → EachIsLeast t.offers words
  -- and one thread alone, doing the offers' events in any order, comes to the same words
  pub agrees : HasClaimedEach t.offers s.steps → (events : List Event) → DrawsEach t.offers events → words ≡ after (none_of t.words) events
