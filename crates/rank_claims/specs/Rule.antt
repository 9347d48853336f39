-- The rule that every step on a table of claims keeps, and what a step tells its seat. What a seat knows is its view.
use Rattle.std.specs.Prelude.{◌≡◌, ℕ, ◌<◌, ◌≤◌, ◌⊎◌, Bool, true, false, List, [], ◌∷◌, ◌++◌, length, max, min, slice_index, slice_set, Contains}
use Rattle.atomic_table.specs.Table.{State, Me, Step}
use Rattle.atomic_table.specs.Seated.{TableId}
use Rattle.atomic_table.specs.declared.shared.Seat.{Seat}
use Rattle.claim_core.specs.declared.events.Event.{Event}
use Rattle.claim_core.specs.declared.events.TheConstants.{NONE}
use Rattle.claim_core.specs.Events.{event, none_of, AllInRow, IsReached, IsOffered}
use Rattle.rank_claims.specs.declared.rule.OwnStep.{OwnStep}
use Rattle.rank_claims.specs.declared.rule.OwnStep.TheVariants.{Claimed, Read, SplitOff}
use Rattle.rank_claims.specs.declared.rule.View.{View}
use Rattle.rank_claims.specs.Claims.{HasClaimed, SeatView, lesser_of}
use Rattle.seat_views.specs.Shares.{AreWhole, half_of, halved}
use Rattle.seat_views.specs.Views.{EachView, SomeView}

-- a seat at a table with no slots
abbrev pub Seated : Type 0
Seated = Me (Unit {0}) View

-- a view as its seat's callers see it
abbrev pub seen : Seat (Unit {0}) View → SeatView
seen s = record { table = s.table_id; offers = s.me.0.offers; known = s.me.0.known; steps = s.me.0.steps; share = s.me.0.share }

-- the view of the first seat of a table
abbrev pub founder : ℕ → List Event → View
founder count offers = record { live = true; offers = offers; known = none_of count; steps = []; share = 0 ∷ [] }

abbrev pub view_after_claim : View → Event → ℕ → View
view_after_claim v e found = record v { known = slice_set v.known e.word (min found e.rank); steps = v.steps ++ Claimed e found ∷ [] }

abbrev pub view_after_look : View → ℕ → ℕ → View
view_after_look v word found = record v { known = slice_set v.known word found; steps = v.steps ++ Read word found ∷ [] }

abbrev pub view_after_split : View → View
view_after_split v = record v { steps = v.steps ++ SplitOff ∷ []; share = halved v.share }

abbrev pub view_split : View → View
view_split v = record v { steps = []; share = half_of v.share }

abbrev pub view_joined : View → View → View
view_joined v w = record v { known = lesser_of v.known w.known; steps = v.steps ++ w.steps; share = v.share ++ w.share }

-- what is left of a view that was joined into another: no rule speaks of it
abbrev pub view_spent : View
view_spent = record { live = false; offers = []; known = []; steps = []; share = [] }

-- whether a view is that of a seat which was not joined into another
abbrev pub is_live : View → Bool
is_live v = v.live

abbrev pub share_of : View → List ℕ
share_of v = v.share

-- A view fits the words: it has the table's offers, and no word is above what it knows
pub record Fits (count : ℕ) (offers : List Event) (words : List ℕ) (v : View) : Type 0 where
  pub one_list : v.offers ≡ offers
  pub wide : length v.known ≡ count
  pub above : (word : ℕ) → word < count → slice_index words word ≤ slice_index v.known word

-- one of these views has claimed the rank for the word, by a step of its seat or of one that was joined into it
abbrev pub IsClaimed : List View → (word rank : ℕ) → Type 0
IsClaimed views word rank = SomeView is_live (λ v. HasClaimed v.steps (event word rank)) views

-- each word is NONE, or its rank is claimed: no word falls but by a claim that a seat has among its steps
abbrev pub EachIsClaimed : List View → List ℕ → Type 0
EachIsClaimed views words = (word : ℕ) → word < length words → (slice_index words word ≡ NONE) ⊎ IsClaimed views word (slice_index words word)

-- The rule. At each moment the words are a state that events of the offers lead to, each rank in them was claimed, they fit
-- each live view, and there are no more live views than were split off. A table for no words has one all the same, which no
-- offer and no call names
pub record Kept (count : ℕ) (offers : List Event) (s : State (Unit {0}) View) : Type 0 where
  pub wide : length s.words ≡ max count 1
  pub reached : IsReached offers s.words
  pub claimed : EachIsClaimed s.views s.words
  pub each : EachView is_live (Fits count offers s.words) s.views
  pub shares : AreWhole is_live share_of s.views

-- what a step may find at a word
abbrev pub ViewFinds : View → ℕ → ℕ → Type 0
ViewFinds v word found = IsOffered v.offers word found × (found ≤ slice_index v.known word)

-- A claim is one event: its word, and its rank as the step's operand
pub record TellsClaim (st : Step (Unit {0})) (m : Seated) (found : ℕ) (m' : Seated) : Type 0 where
  pub view : m'.0 ≡ view_after_claim m.0 (event st.word st.first) found
  pub slots : m'.1 ≡ m.1
  pub finds : ViewFinds m.0 st.word found

-- a look is no event
pub record TellsLook (st : Step (Unit {0})) (m : Seated) (found : ℕ) (m' : Seated) : Type 0 where
  pub view : m'.0 ≡ view_after_look m.0 st.word found
  pub slots : m'.1 ≡ m.1
  pub finds : ViewFinds m.0 st.word found

-- a seat knows of each word that it is not above what the seat itself has claimed
abbrev pub Covers : List ℕ → List OwnStep → Type 0
Covers known steps = (e : Event) (found : ℕ) → Contains steps (Claimed e found) → slice_index known e.word ≤ e.rank

-- a seat that callers have: it was not joined into another, holds no slot, and knows what it has claimed
pub record IsSeated (m : Seated) : Type 0 where
  pub live : m.0.live ≡ true
  pub slots : m.1 ≡ []
  pub covers : Covers m.0.known m.0.steps

-- a table that callers have: its words and slots, what it was made for, and offers that its words can take
pub record IsTableFor (count : ℕ) (table : TableId) (given : ℕ) (offers : List Event) : Type 0 where
  pub wide : table.words ≡ max count 1
  pub slots : table.slots ≡ 0
  pub given_count : given ≡ count
  pub in_row : AllInRow count offers
