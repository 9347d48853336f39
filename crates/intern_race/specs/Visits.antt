-- One slot on the way of a search: what has to be known before it may be filled, and what a visit gives.
use Rattle.std.specs.Prelude.{◌≡◌, ℕ, ◌<◌, List, flat_map, All, Contains}
use Rattle.intern_race.specs.declared.rule.OwnStep.{OwnStep}
use Rattle.intern_race.specs.Interning.{IsLook, IsPassed, SeatView, TableView, pair, seen_by}
use Rattle.intern_race.specs.Slots.{slot_on}

-- each slot that a search for a text meets before so many was seen to hold another
abbrev pub HasPassed : TableView → SeatView → (text : List ℕ) → (far : ℕ) → Type 0
HasPassed t s text far = (e : ℕ) → e < far → IsPassed t.texts s.seen (slot_on t.slots text e) text

-- the slot may be filled with a text if it is still empty
pub record CanFill (t : TableView) (s : SeatView) (text : List ℕ) (slot : ℕ) : Type 0 where
  pub far : ℕ
  pub short : far < t.slots
  pub ends : slot_on t.slots text far ≡ slot
  pub passed : HasPassed t s text far

-- the steps of a visit with text i are looks at its slot, of which one shows which text is held
pub record IsVisit (i slot number : ℕ) (own : List OwnStep) : Type 0 where
  pub looks : All (IsLook i slot) own
  pub shows : Contains (flat_map seen_by own) (pair slot number)
