-- The rule that every step on a text table keeps, and what a step gives its seat. What a seat knows is its view.
use Rattle.std.specs.Prelude.{◌≡◌, ◌≢◌, ℕ, ◌^◌, ◌<◌, ◌≤◌, ◌⊎◌, Bool, true, false, List, [], ◌∷◌, ◌++◌, length, flat_map, slice_index, Contains}
use Rattle.atomic_table.specs.Table.{State, Me, Step}
use Rattle.atomic_table.specs.Seated.{TableId}
use Rattle.atomic_table.specs.declared.shared.Seat.{Seat}
use Rattle.intern_race.specs.declared.rule.OwnStep.{OwnStep}
use Rattle.intern_race.specs.declared.rule.OwnStep.TheVariants.{Loaded, Tried, Lowered, SplitOff}
use Rattle.intern_race.specs.declared.rule.Pair.{Pair}
use Rattle.intern_race.specs.declared.rule.View.{View}
use Rattle.intern_race.specs.Interning.{AreApart, SeatView, seen_by, placed_by}
use Rattle.intern_race.specs.Slots.{AreSlots, Holds, IsSlotCount, holder, least, none}
use Rattle.intern_race.specs.Texts.{text_at}
use Rattle.seat_views.specs.Shares.{AreWhole, half_of, halved}
use Rattle.seat_views.specs.Views.{EachView, SomeView}

-- a seat at a table with no slots of the base crate's
abbrev pub Seated : Type 0
Seated = Me (Unit {0}) View

-- a view as its seat's callers see it
abbrev pub seen : Seat (Unit {0}) View → SeatView
seen s = record { table = s.table_id; texts = s.me.0.texts; seen = s.me.0.seen; placed = s.me.0.placed; steps = s.me.0.steps; share = s.me.0.share }

-- the view of the first seat of a table
abbrev pub founder : List (List ℕ) → View
founder texts = record { live = true; texts = texts; seen = []; placed = []; steps = []; share = 0 ∷ [] }

-- a view after a step of its seat
abbrev pub view_after : View → OwnStep → View
view_after v st = record v { seen = v.seen ++ flat_map seen_by (st ∷ []); placed = v.placed ++ flat_map placed_by (st ∷ []); steps = v.steps ++ st ∷ [] }

abbrev pub view_after_split : View → View
view_after_split v = record v { steps = v.steps ++ SplitOff ∷ []; share = halved v.share }

abbrev pub view_split : View → View
view_split v = record v { steps = []; share = half_of v.share }

abbrev pub view_joined : View → View → View
view_joined v w = record v { seen = v.seen ++ w.seen; placed = v.placed ++ w.placed; steps = v.steps ++ w.steps; share = v.share ++ w.share }

-- what is left of a view that was joined into another: no rule speaks of it
abbrev pub view_spent : View
view_spent = record { live = false; texts = []; seen = []; placed = []; steps = []; share = [] }

-- whether a view is that of a seat which was not joined into another
abbrev pub is_live : View → Bool
is_live v = v.live

abbrev pub share_of : View → List ℕ
share_of v = v.share

-- a slot holds what it was seen to hold
pub record Stands (words : List ℕ) (p : Pair) : Type 0 where
  pub within : p.slot < length words
  pub holds : Holds words p.slot p.text

-- a placed text's slot holds an equal text, and its least number is at most the text's
pub record IsPlaced (texts : List (List ℕ)) (words : List ℕ) (p : Pair) : Type 0 where
  pub within : p.slot < length words
  pub number : p.text < length texts
  pub filled : slice_index words p.slot ≢ none
  pub equal : text_at texts (holder (slice_index words p.slot)) ≡ text_at texts p.text
  pub most : least (slice_index words p.slot) ≤ p.text

-- a view fits the words: it has the table's texts, and what it has seen and placed stands
pub record Fits (texts : List (List ℕ)) (words : List ℕ) (v : View) : Type 0 where
  pub one_list : v.texts ≡ texts
  pub seen : (p : Pair) → Contains v.seen p → Stands words p
  pub placed : (p : Pair) → Contains v.placed p → IsPlaced texts words p

-- one of these views has filled the slot with the text, by a step of its seat or of one that was joined into it
abbrev pub HasFilled : (slot number : ℕ) → View → Type 0
HasFilled slot number v = Contains v.steps (Tried slot number none)

-- one has offered the number for the slot
abbrev pub HasOffered : (slot number : ℕ) → View → Type 0
HasOffered slot number v = (found : ℕ) × Contains v.steps (Lowered slot number found)

-- a filled slot's word: a seat has the step that filled it, and its least number came with it, or a seat has the step that offered it
pub record IsOwned (views : List View) (slot word : ℕ) : Type 0 where
  pub filled : SomeView is_live (HasFilled slot (holder word)) views
  pub offered : (least word ≡ holder word) ⊎ SomeView is_live (HasOffered slot (least word)) views

-- no word changes but by a step that a seat has among its own
abbrev pub EachIsOwned : List View → List ℕ → Type 0
EachIsOwned views words = (slot : ℕ) → slot < length words → (slice_index words slot ≡ none) ⊎ IsOwned views slot (slice_index words slot)

-- The rule. At each moment each slot is empty or holds a text in its place, what was written is among the steps of a live view, each
-- live view fits the words, and all shares are the whole table
pub record Kept (slots : ℕ) (texts : List (List ℕ)) (s : State (Unit {0}) View) : Type 0 where
  pub wide : length s.words ≡ slots
  pub held : AreSlots texts s.words
  pub owned : EachIsOwned s.views s.words
  pub each : EachView is_live (Fits texts s.words) s.views
  pub shares : AreWhole is_live share_of s.views

-- what a step leaves: the view has the step, and what the seat knows is so at one moment
pub record Tells (m : Seated) (st : OwnStep) (m' : Seated) : Type 0 where
  pub view : m'.0 ≡ view_after m.0 st
  pub slots : m'.1 ≡ m.1
  pub apart : AreApart m.0.texts (m'.0.seen ++ m'.0.placed)

-- a word is that of a slot in which these texts are placed
abbrev pub IsWordOf : View → (slot word : ℕ) → Type 0
IsWordOf v slot word = (p : Pair) → Contains v.placed p → p.slot ≡ slot → (least word < length v.texts) × (text_at v.texts (least word) ≡ text_at v.texts p.text) × (least word ≤ p.text)

-- a load: its slot, and what stands there
pub record TellsLoad (st : Step (Unit {0})) (m : Seated) (found : ℕ) (m' : Seated) : Type 0 where
  pub step : Tells m (Loaded st.word found) m'
  pub finds : IsWordOf m.0 st.word found

-- a try to fill an empty slot with a word whose lower half is the text's number
abbrev pub TellsTry : (st : Step (Unit {0})) → (m : Seated) → (found : ℕ) → (m' : Seated) → Type 0
TellsTry st m found m' = Tells m (Tried st.word (holder st.second) found) m'

-- an offer of a text's number, the upper half of the operand
abbrev pub TellsLower : (st : Step (Unit {0})) → (m : Seated) → (found : ℕ) → (m' : Seated) → Type 0
TellsLower st m found m' = Tells m (Lowered st.word (least st.first) found) m'

-- a load that is no step of the seat's: what it knows is so at one moment
pub record TellsApart (m m' : Seated) : Type 0 where
  pub same : m' ≡ m
  pub apart : AreApart m.0.texts (m.0.seen ++ m.0.placed)

-- a seat that callers have: it was not joined into another, and what it knows was so at one moment
pub record IsSeated (m : Seated) : Type 0 where
  pub live : m.0.live ≡ true
  pub slots : m.1 ≡ []
  pub apart : AreApart m.0.texts (m.0.seen ++ m.0.placed)

-- a table that callers have: its words, and what it was made for
pub record IsTableFor (slots : ℕ) (table : TableId) (given : ℕ) (texts : List (List ℕ)) : Type 0 where
  pub wide : table.words ≡ slots
  pub none : table.slots ≡ 0
  pub given_count : given ≡ slots
  pub count : IsSlotCount (length texts) slots
  pub few : length texts ≤ 2 ^ 31
  pub most : slots ≤ 2 ^ 32
