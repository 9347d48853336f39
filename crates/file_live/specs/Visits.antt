-- A search by a queue: the marks, and the numbers that were marked, in order.
use Rattle.std.specs.Prelude.{ℕ, Bool, true, if◌then◌else◌, List, [], ◌∷◌, ◌++◌, slice_set}
use Rattle.lk_tables.specs.Reach.{mark}

pub record Reached : Type 0 where
  pub seen : List Bool
  pub queue : List ℕ

abbrev pub reached : List Bool → List ℕ → Reached
reached seen queue = record { seen = seen; queue = queue }

-- one number is marked, and many
abbrev pub visited : Reached → ℕ → Reached
visited r f = if mark r.seen f then r else reached (slice_set r.seen f true) (r.queue ++ f ∷ [])

abbrev pub all_visited : Reached → List ℕ → Reached
all_visited r [] = r
all_visited r (f ∷ fs) = all_visited (visited r f) fs
