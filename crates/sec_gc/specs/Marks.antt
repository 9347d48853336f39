-- Marks of sections and a seat at them as callers see them, what each call does to a seat, and what closed marks are.
use Rattle.std.specs.Prelude.{◌≡◌, ℕ, zero, suc, ◌+◌, ◌≤◌, ◌==◌, ◌⊎◌, Bool, true, false, List, [], ◌∷◌, ◌++◌, length, slice_index_or, Contains}
use Rattle.atomic_table.specs.Seated.{TableId}
use Rattle.lk_tables.specs.Reach.{mark, ends_at, IsReached}
use Rattle.sec_gc.specs.declared.rule.OwnStep.{OwnStep}
use Rattle.sec_gc.specs.declared.rule.OwnStep.TheVariants.{Looked, SplitOff, Swapped}
use Rattle.seat_views.specs.Shares.{half_of, halved}

-- marks: which table has them, the roots, and by number where each section leads
pub record MarksView : Type 0 where
  pub table : TableId
  pub roots : List ℕ
  pub ends : List (List ℕ)

-- A seat: its table, the roots and the ends, the sections that it has seen marked, those that it was the first to mark, its own steps
-- in order, and its share of the table, as parts: k is a part that is the whole halved k times. The shares of all seats are the whole
pub record SeatView : Type 0 where
  pub table : TableId
  pub roots : List ℕ
  pub ends : List (List ℕ)
  pub seen : List ℕ
  pub won : List ℕ
  pub steps : List OwnStep
  pub share : List ℕ

-- the seat is one of these marks'
pub record SitsAt (m : MarksView) (s : SeatView) : Type 0 where
  pub table : s.table ≡ m.table
  pub roots : s.roots ≡ m.roots
  pub ends : s.ends ≡ m.ends

-- a seat may mark a section that is a root, or to which one leads that it has seen marked
abbrev pub MayMark : (roots : List ℕ) → (ends : List (List ℕ)) → (seen : List ℕ) → (section : ℕ) → Type 0
MayMark roots ends seen section = Contains roots section ⊎ ((from : ℕ) × Contains seen from × Contains (ends_at ends from) section)

-- the section at a place of a list
abbrev pub section_at : List ℕ → ℕ → ℕ
section_at list k = slice_index_or list k 0

-- 1 if something is so, as the word of a section that is marked
abbrev pub word_of : Bool → ℕ
word_of true = 1
word_of false = 0

-- how often a section stands in a list
abbrev pub times : ℕ → List ℕ → ℕ
times f [] = 0
times f (g ∷ list) = word_of (f == g) + times f list

-- a seat has won a section that it marks if it found it without a mark
abbrev pub won_at : (section found : ℕ) → List ℕ
won_at section zero = section ∷ []
won_at section (suc n) = []

-- it has seen one that it looks at if it found a mark
abbrev pub seen_at : (section found : ℕ) → List ℕ
seen_at section zero = []
seen_at section (suc n) = section ∷ []

-- the seat that new marks come with: it has the whole table
abbrev pub first_seat : MarksView → SeatView
first_seat m = record { table = m.table; roots = m.roots; ends = m.ends; seen = []; won = []; steps = []; share = 0 ∷ [] }

-- the seat after it marked a section, whose word was `found`
abbrev pub after_swap : SeatView → ℕ → ℕ → SeatView
after_swap s section found = record s { seen = s.seen ++ section ∷ []; won = s.won ++ won_at section found; steps = s.steps ++ Swapped section found ∷ [] }

-- the seat after it looked at a section, whose word was `found`
abbrev pub after_look : SeatView → ℕ → ℕ → SeatView
after_look s section found = record s { seen = s.seen ++ seen_at section found; steps = s.steps ++ Looked section found ∷ [] }

-- the seat after another was split off it, which is a step of its own, and took half of a part
abbrev pub after_split : SeatView → SeatView
after_split s = record s { steps = s.steps ++ SplitOff ∷ []; share = halved s.share }

-- the seat that is split from this one: it has seen the same, has won nothing and made no step, and has the other half
abbrev pub newcomer : SeatView → SeatView
newcomer s = record s { won = []; steps = []; share = half_of s.share }

-- the seat that another was joined into
abbrev pub joined : SeatView → SeatView → SeatView
joined s other = record s { seen = s.seen ++ other.seen; won = s.won ++ other.won; steps = s.steps ++ other.steps; share = s.share ++ other.share }

-- What marks are that were closed with a seat, by section number
pub record IsClosing (m : MarksView) (s : SeatView) (marks : List Bool) : Type 0 where
  pub count : length marks ≡ length m.ends
  -- what is marked is reached
  pub within : (f : ℕ) → mark marks f ≡ true → IsReached m.roots m.ends f
  -- what the seat has seen marked is marked
  pub seen : (f : ℕ) → Contains s.seen f → mark marks f ≡ true
  -- what it has won is marked, and won once
  pub won : (f : ℕ) → times f s.won ≤ word_of (mark marks f)
