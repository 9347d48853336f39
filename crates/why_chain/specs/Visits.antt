-- A search along edges in breadth: marks, and what is met at one place of the queue.
use Rattle.std.specs.Prelude.{◌≡◌, ℕ, ◌<◌, Bool, true, if◌then◌else◌, List, [], ◌∷◌, ◌++◌, length, replicate, slice_index, slice_set, IsPermutation}
use Rattle.lk_tables.specs.Reach.{mark}

-- where each section leads, and after the last the start, which leads to the roots
unfoldable pub with_start : (roots : List ℕ) → (ends : List (List ℕ)) → List (List ℕ)
with_start roots ends = ends ++ roots ∷ []

-- marks, and what was marked, one number after the other
pub record Gathered : Type 0 where
  pub seen : List Bool
  pub row : List ℕ

abbrev pub gathered : List Bool → List ℕ → Gathered
gathered seen row = record { seen = seen; row = row }

abbrev pub one_gathered : Gathered → ℕ → Gathered
one_gathered g end = if mark g.seen end then g else gathered (slice_set g.seen end true) (g.row ++ end ∷ [])

abbrev pub all_gathered : Gathered → List ℕ → Gathered
all_gathered g [] = g
all_gathered g (end ∷ ends) = all_gathered (one_gathered g end) ends

-- the ends of one place without a mark are marked, and stand in order at the end of the queue, which notes the place
pub record HasVisited (ends : List ℕ) (place : ℕ) (seen now : List Bool) (old new froms more : List ℕ) : Type 0 where
  pub row : List ℕ
  pub marks : now ≡ (all_gathered (gathered seen []) ends).seen
  pub moved : IsPermutation (all_gathered (gathered seen []) ends).row row
  pub rises : (i j : ℕ) → i < j → j < length row → slice_index row i < slice_index row j
  pub queue : new ≡ old ++ row
  pub places : more ≡ froms ++ replicate (length row) place

-- what leads to each place of a queue: nothing to the first, and to another what leads to the place from which it was met, and its own number
pub record AreWords (numbers froms : List ℕ) (word : ℕ → List ℕ) : Type 0 where
  pub first : word 0 ≡ []
  pub next : (i : ℕ) → 0 < i → i < length froms → word i ≡ word (slice_index froms i) ++ slice_index numbers i ∷ []
