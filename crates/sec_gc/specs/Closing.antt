-- Rounds that close marks: what a look at all sections gives, and what is left once the ends of all that is marked were looked up.
use Rattle.std.specs.Prelude.{◌≡◌, ℕ, ◌<◌, ◌≤◌, Bool, true, false, List, length, Contains}
use Rattle.lk_tables.specs.Reach.{mark, ends_at, IsReached}
use Rattle.sec_gc.specs.Marks.{MarksView, section_at}

-- what was seen stays seen
abbrev pub KeepsSeen : List ℕ → List ℕ → Type 0
KeepsSeen seen more = (f : ℕ) → Contains seen f → Contains more f

-- marks as a seat found them, one for each section: what is marked is reached, and the seat has seen it
pub record AreFound (m : MarksView) (seen : List ℕ) (on : List Bool) : Type 0 where
  pub wide : length on ≡ length m.ends
  pub within : (f : ℕ) → mark on f ≡ true → IsReached m.roots m.ends f
  pub known : (f : ℕ) → mark on f ≡ true → Contains seen f

-- what was seen before is among them
abbrev pub HaveSeen : List ℕ → List Bool → Type 0
HaveSeen seen on = (f : ℕ) → Contains seen f → f < length on → mark on f ≡ true

-- the first numbers of a list are marked
abbrev pub AreOn : List Bool → List ℕ → ℕ → Type 0
AreOn on list count = (i : ℕ) → i < count → mark on (section_at list i) ≡ true

-- all ends of a section are marked
abbrev pub HasEnds : (ends : List (List ℕ)) → List Bool → ℕ → Type 0
HasEnds ends on f = AreOn on (ends_at ends f) (length (ends_at ends f))

-- all ends of the marked sections from one number up to another are marked
abbrev pub HaveEnds : (ends : List (List ℕ)) → List Bool → (start end : ℕ) → Type 0
HaveEnds ends on start end = (f : ℕ) → start ≤ f → f < end → mark on f ≡ true → HasEnds ends on f

-- a section without a mark, which is seen marked now
pub record Missing (seen : List ℕ) (on : List Bool) : Type 0 where
  pub section : ℕ
  pub inside : section < length on
  pub no_mark : mark on section ≡ false
  pub known : Contains seen section

-- whether something was missing: if so it is seen now, and if not the marks are as they should be
pub record Rests (seen : List ℕ) (on : List Bool) (Whole : Type 0) (more : Bool) : Type 0 where
  pub some : more ≡ true → Missing seen on
  pub none : more ≡ false → Whole
