-- A text table and a seat at it as callers see them, what each call does to a seat, and what it answers.
use Rattle.std.specs.Prelude.{◌≡◌, ◌≢◌, ℕ, ◌<◌, ◌≤◌, ◌⊎◌, ◌==◌, if◌then◌else◌, List, [], ◌∷◌, ◌++◌, length, flat_map, All, Contains}
use mathlib.Core.Logic.{◌↔◌}
use Rattle.atomic_table.specs.Seated.{TableId}
use Rattle.intern_race.specs.declared.rule.OwnStep.{OwnStep}
use Rattle.intern_race.specs.declared.rule.OwnStep.TheVariants.{Loaded, Tried, Lowered, SplitOff}
use Rattle.intern_race.specs.declared.rule.Pair.{Pair}
use Rattle.intern_race.specs.Slots.{none, holder, slot_on}
use Rattle.intern_race.specs.Texts.{text_at}
use Rattle.seat_views.specs.Shares.{half_of, halved}

-- a table: which one it is, the texts that it was opened for, and how many slots it has
pub record TableView : Type 0 where
  pub table : TableId
  pub texts : List (List ℕ)
  pub slots : ℕ

-- A seat: its table, the texts, the slots that it has seen filled, each with the number of the text that is held there, the texts that
-- it has placed, each with the slot that holds an equal text, its own steps in order, and its share of the table, as parts: k is
-- a part that is the whole halved k times. The shares of all seats are the whole table
pub record SeatView : Type 0 where
  pub table : TableId
  pub texts : List (List ℕ)
  pub seen : List Pair
  pub placed : List Pair
  pub steps : List OwnStep
  pub share : List ℕ

-- the seat is one of this table's
pub record SitsAt (t : TableView) (s : SeatView) : Type 0 where
  pub table : s.table ≡ t.table
  pub texts : s.texts ≡ t.texts

abbrev pub pair : (slot text : ℕ) → Pair
pair k i = record { slot = k; text = i }

-- what a step shows to be held in its slot
abbrev pub seen_by : OwnStep → List Pair
seen_by (Loaded k found) = if found == none then [] else pair k (holder found) ∷ []
seen_by (Tried k i found) = if found == none then pair k i ∷ [] else pair k (holder found) ∷ []
seen_by (Lowered k i found) = []
seen_by SplitOff = []

-- the text that a step places
abbrev pub placed_by : OwnStep → List Pair
placed_by (Loaded k found) = []
placed_by (Tried k i found) = []
placed_by (Lowered k i found) = pair k i ∷ []
placed_by SplitOff = []

-- the seat that a new table comes with: it has the whole of it
abbrev pub first_seat : TableView → SeatView
first_seat t = record { table = t.table; texts = t.texts; seen = []; placed = []; steps = []; share = 0 ∷ [] }

-- the seat after steps of its own
abbrev pub after_steps : SeatView → List OwnStep → SeatView
after_steps s own = record s { seen = s.seen ++ flat_map seen_by own; placed = s.placed ++ flat_map placed_by own; steps = s.steps ++ own }

-- the seat after another was split off it, which is a step of its own, and took half of a part
abbrev pub after_split : SeatView → SeatView
after_split s = record s { steps = s.steps ++ SplitOff ∷ []; share = halved s.share }

-- the seat that is split from this one: it knows the same, has made no step, and has the other half
abbrev pub newcomer : SeatView → SeatView
newcomer s = record s { steps = []; share = half_of s.share }

-- the seat that another was joined into
abbrev pub joined : SeatView → SeatView → SeatView
joined s other = record s { seen = s.seen ++ other.seen; placed = s.placed ++ other.placed; steps = s.steps ++ other.steps; share = s.share ++ other.share }

-- what a seat knows of slots: which texts they hold, or texts equal to these
abbrev pub known : SeatView → List Pair
known s = s.seen ++ s.placed

-- the pairs name texts that are there, and two slots of theirs are one exactly where their texts are equal
pub record AreApart (texts : List (List ℕ)) (pairs : List Pair) : Type 0 where
  pub within : (p : Pair) → Contains pairs p → p.text < length texts
  pub apart : (p q : Pair) → Contains pairs p → Contains pairs q → (p.slot ≡ q.slot) ↔ (text_at texts p.text ≡ text_at texts q.text)

-- a slot was seen to hold another text
abbrev pub IsPassed : (texts : List (List ℕ)) → List Pair → (slot : ℕ) → (text : List ℕ) → Type 0
IsPassed texts seen slot text = (n : ℕ) × Contains seen (pair slot n) × (text_at texts n ≢ text)

-- a slot was seen to hold an equal text
abbrev pub IsFound : (texts : List (List ℕ)) → List Pair → (slot : ℕ) → (text : List ℕ) → Type 0
IsFound texts seen slot text = (n : ℕ) × Contains seen (pair slot n) × (text_at texts n ≡ text)

-- a step is a load of a slot, or a try to fill it with text i
abbrev pub IsLook : (i slot : ℕ) → OwnStep → Type 0
IsLook i slot step = ((found : ℕ) × (step ≡ Loaded slot found)) ⊎ ((found : ℕ) × (step ≡ Tried slot i found))

-- The steps by which a seat places text i in a slot: it meets slots from the text's home on, fewer than there are texts, and
-- looks at them alone; all but the last hold other texts, the last an equal one, and there it offers the text's number
pub record IsWalk (t : TableView) (i slot : ℕ) (own : List OwnStep) : Type 0 where
  pub far : ℕ
  pub few : far < length t.texts
  pub ends : slot_on t.slots (text_at t.texts i) far ≡ slot
  pub looks : List OwnStep
  pub last : (found : ℕ) × (own ≡ looks ++ Lowered slot i found ∷ [])
  pub only : All (λ step. (e : ℕ) × (e ≤ far) × IsLook i (slot_on t.slots (text_at t.texts i) e) step) looks
  pub passed : (e : ℕ) → e < far → IsPassed t.texts (flat_map seen_by looks) (slot_on t.slots (text_at t.texts i) e) (text_at t.texts i)
  pub found : IsFound t.texts (flat_map seen_by looks) slot (text_at t.texts i)

-- some slot is known to be that of text i
abbrev pub HasPlaced : SeatView → ℕ → Type 0
HasPlaced s i = (k : ℕ) × Contains s.placed (pair k i)

-- each text is placed
abbrev pub HasPlacedAll : SeatView → Type 0
HasPlacedAll s = (i : ℕ) → i < length s.texts → HasPlaced s i

-- some text is known to be placed in a slot
abbrev pub IsTaken : SeatView → (slot : ℕ) → Type 0
IsTaken s slot = (i : ℕ) × Contains s.placed (pair slot i)

-- a number that a slot may give: that of a text equal to each that is placed there, and at most theirs
abbrev pub IsLeastOf : SeatView → (slot number : ℕ) → Type 0
IsLeastOf s slot number = (i : ℕ) → Contains s.placed (pair slot i) → (number < length s.texts) × (text_at s.texts number ≡ text_at s.texts i) × (number ≤ i)
