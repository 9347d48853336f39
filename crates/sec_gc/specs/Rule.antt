-- The rule that every step on marks keeps, and what a step tells its seat. What a seat knows is its view.
use Rattle.std.specs.Prelude.{◌≡◌, ℕ, ◌<◌, ◌≤◌, Bool, true, false, List, [], ◌∷◌, ◌++◌, length, max, slice_index, All, Contains}
use Rattle.lk_tables.specs.Reach.{IsReached}
use Rattle.atomic_table.specs.Table.{State, Me, Step}
use Rattle.atomic_table.specs.Seated.{TableId}
use Rattle.atomic_table.specs.declared.shared.Seat.{Seat}
use Rattle.sec_gc.specs.declared.rule.OwnStep.TheVariants.{Looked, SplitOff, Swapped}
use Rattle.sec_gc.specs.declared.rule.View.{View}
use Rattle.sec_gc.specs.Marks.{SeatView, seen_at, times, won_at}
use Rattle.seat_views.specs.Shares.{AreWhole, half_of, halved}
use Rattle.seat_views.specs.Views.{EachView, total_of}

-- a seat at a table with no slots
abbrev pub Seated : Type 0
Seated = Me (Unit {0}) View

-- a view as its seat's callers see it
abbrev pub seat_view : Seat (Unit {0}) View → SeatView
seat_view s = record { table = s.table_id; roots = s.me.0.roots; ends = s.me.0.ends; seen = s.me.0.seen; won = s.me.0.won; steps = s.me.0.steps; share = s.me.0.share }

-- the view of the first seat of a table
abbrev pub founder : List ℕ → List (List ℕ) → View
founder roots ends = record { live = true; roots = roots; ends = ends; seen = []; won = []; steps = []; share = 0 ∷ [] }

abbrev pub view_after_swap : View → (section found : ℕ) → View
view_after_swap v section found = record v { seen = v.seen ++ section ∷ []; won = v.won ++ won_at section found; steps = v.steps ++ Swapped section found ∷ [] }

abbrev pub view_after_look : View → (section found : ℕ) → View
view_after_look v section found = record v { seen = v.seen ++ seen_at section found; steps = v.steps ++ Looked section found ∷ [] }

abbrev pub view_after_split : View → View
view_after_split v = record v { steps = v.steps ++ SplitOff ∷ []; share = halved v.share }

abbrev pub view_split : View → View
view_split v = record v { won = []; steps = []; share = half_of v.share }

abbrev pub view_joined : View → View → View
view_joined v w = record v { seen = v.seen ++ w.seen; won = v.won ++ w.won; steps = v.steps ++ w.steps; share = v.share ++ w.share }

-- what is left of a view that was joined into another: no rule speaks of it
abbrev pub view_spent : View
view_spent = record { live = false; roots = []; ends = []; seen = []; won = []; steps = []; share = [] }

-- whether a view is that of a seat which was not joined into another
abbrev pub is_live : View → Bool
is_live v = v.live

abbrev pub share_of : View → List ℕ
share_of v = v.share

-- how often a view has won a section
abbrev pub wins_of : ℕ → View → ℕ
wins_of f v = times f v.won

-- A view fits the words: it has the table's roots and ends, and what it has seen is marked
pub record Fits (roots : List ℕ) (ends : List (List ℕ)) (words : List ℕ) (v : View) : Type 0 where
  pub one_roots : v.roots ≡ roots
  pub one_ends : v.ends ≡ ends
  pub marked : (f : ℕ) → Contains v.seen f → slice_index words f ≡ 1

-- The rule. At each moment a word is 0 or 1, and 1 only of a section that is reached; what a live view has seen is marked; the live
-- views have won each section as often as its word says: none that has no mark, and none twice; and there are no more live views than
-- were split off. A table for no sections has one word all the same, which no call names
pub record Kept (roots : List ℕ) (ends : List (List ℕ)) (s : State (Unit {0}) View) : Type 0 where
  pub wide : length s.words ≡ max (length ends) 1
  pub bits : (f : ℕ) → slice_index s.words f ≤ 1
  pub inside : (f : ℕ) → slice_index s.words f ≡ 1 → IsReached roots ends f
  pub each : EachView is_live (Fits roots ends s.words) s.views
  pub wins : (f : ℕ) → total_of is_live (wins_of f) s.views ≡ slice_index s.words f
  pub shares : AreWhole is_live share_of s.views

-- A swap for 1 marks its word's section
pub record TellsSwap (st : Step (Unit {0})) (m : Seated) (found : ℕ) (m' : Seated) : Type 0 where
  pub view : m'.0 ≡ view_after_swap m.0 st.word found
  pub slots : m'.1 ≡ m.1
  pub bit : found ≤ 1
  pub once : found ≡ 0 → times st.word m.0.won ≡ 0
  pub within : IsReached m.0.roots m.0.ends st.word

-- a look changes no word
pub record TellsLook (st : Step (Unit {0})) (m : Seated) (found : ℕ) (m' : Seated) : Type 0 where
  pub view : m'.0 ≡ view_after_look m.0 st.word found
  pub slots : m'.1 ≡ m.1
  pub bit : found ≤ 1
  pub known : Contains m.0.seen st.word → found ≡ 1
  pub within : found ≡ 1 → IsReached m.0.roots m.0.ends st.word

-- a seat that callers have: it was not joined into another, and holds no slot
pub record IsSeated (m : Seated) : Type 0 where
  pub live : m.0.live ≡ true
  pub slots : m.1 ≡ []

-- a table that callers have: its words and slots, the sections that it was made for, and roots among them
pub record IsTableFor (sections : ℕ) (table : TableId) (roots : List ℕ) (ends : List (List ℕ)) : Type 0 where
  pub wide : table.words ≡ max sections 1
  pub slots : table.slots ≡ 0
  pub count : length ends ≡ sections
  pub rooted : All (λ r. r < length ends) roots
