-- A search by a queue: the marks, and the numbers that were marked, in order.
use Rattle.std.specs.Prelude.{◌≡◌, ℕ, ◌+◌, ◌<◌, ◌≤◌, Bool, true, if◌then◌else◌, List, [], ◌∷◌, ◌++◌, length, slice_index, slice_set, Contains}
use Rattle.lk_tables.specs.Reach.{mark, ends_at, unmarked}
use Rattle.sec_gc.specs.Kept.{reached_in}

pub record Progress : Type 0 where
  pub seen : List Bool
  pub queue : List ℕ

abbrev pub progress : List Bool → List ℕ → Progress
progress seen queue = record { seen = seen; queue = queue }

-- one number is marked, and many
abbrev pub visited : Progress → ℕ → Progress
visited p f = if mark p.seen f then p else progress (slice_set p.seen f true) (p.queue ++ f ∷ [])

abbrev pub all_visited : Progress → List ℕ → Progress
all_visited p [] = p
all_visited p (f ∷ fs) = all_visited (visited p f) fs

module _ (roots : List ℕ) (ends : List (List ℕ)) where
  -- the queue has each place that is marked, once, and place k of it is reached in k rounds
  pub record Tied (from : ℕ) (p : Progress) : Type 0 where
    pub wide : length p.seen ≡ length ends
    pub counted : unmarked p.seen + length p.queue ≡ length ends
    pub queued : (f : ℕ) → mark p.seen f ≡ true → Contains p.queue f
    pub found : (k : ℕ) → k < length p.queue → reached_in roots ends k (slice_index p.queue k) ≡ true
    pub within : (k : ℕ) → k < length p.queue → slice_index p.queue k < length ends
    pub longer : from ≤ length p.queue

  -- a search that has followed the first places of its queue
  pub record Searched (next : ℕ) (p : Progress) : Type 0 where
    pub tied : Tied 0 p
    pub rooted : (f : ℕ) → Contains roots f → mark p.seen f ≡ true
    pub followed : (k g : ℕ) → k < next → Contains (ends_at ends (slice_index p.queue k)) g → mark p.seen g ≡ true
    pub low : next ≤ length p.queue
