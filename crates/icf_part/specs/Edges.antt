-- Which items lead to each item, and in which place of their relocations.
use Rattle.std.specs.Prelude.{◌≡◌, ◌⊎◌, ℕ, ◌<◌, ◌^◌, Bool, List, [], length, slice_index, slice_index_or, Contains}
use Rattle.icf_part.specs.declared.classes.Classes.{Classes}
use Rattle.icf_part.specs.declared.seeds.Waiting.{Waiting}
use Rattle.icf_part.specs.Classes.{IsSettled, Waits, label_of, word}
use Rattle.icf_part.specs.Folding.{Pair}
use Rattle.icf_part.specs.Numbered.{AreCarried, AreEnds, IsStable, Joins}
use Rattle.icf_part.specs.Signatures.{end_classes}

-- item a's place k
abbrev pub end_at : (ends : List (List ℕ)) → (a k : ℕ) → ℕ
end_at ends a k = slice_index (slice_index_or ends a []) k

-- by item, a word for each place that leads to it
pub record AreInto (ends into : List (List ℕ)) : Type 0 where
  pub count : length into ≡ length ends
  pub all : (a k : ℕ) → a < length ends → k < length (slice_index_or ends a []) → Contains (slice_index_or into (end_at ends a k) []) (word k a)
  pub only : (t k a : ℕ) → a < 2 ^ 32 → Contains (slice_index_or into t []) (word k a) → (a < length ends) × ((k < length (slice_index_or ends a [])) × (end_at ends a k ≡ t))

-- classes are split by which of their items lead to one class, place by place
pub record IsTurned (ends : List (List ℕ)) (label : ℕ) (old new : List ℕ) : Type 0 where
  pub there : (k a b : ℕ) → a < length ends → b < length ends → slice_index new a ≡ slice_index new b → k < length (slice_index_or ends a []) →
      slice_index old (end_at ends a k) ≡ label → k < length (slice_index_or ends b [])
  pub apart : (k a b : ℕ) → a < length ends → b < length ends → slice_index new a ≡ slice_index new b → k < length (slice_index_or ends a []) →
      slice_index old (end_at ends a k) ≡ label → slice_index old (end_at ends b k) ≡ label
  pub together : (a b : ℕ) → a < length ends → b < length ends → end_classes old ends a ≡ end_classes old ends b → slice_index old a ≡ slice_index old b →
      slice_index new a ≡ slice_index new b

-- where two items of one class lead differently, the turn of one of these classes comes
pub record IsPending (ends : List (List ℕ)) (labels : List ℕ) (waits : List Bool) : Type 0 where
  pub settled : (a b k : ℕ) → a < length ends → b < length ends → slice_index labels a ≡ slice_index labels b → k < length (slice_index_or ends a []) →
      IsSettled labels waits (end_at ends a k) (end_at ends b k)

-- what all turns leave
pub record IsDone (into : List (List ℕ)) (start last : Classes) : Type 0 where
  pub finer : (a b : ℕ) → a < length start.labels.items → b < length start.labels.items → label_of last a ≡ label_of last b → label_of start a ≡ label_of start b
  pub stable : (ends : List (List ℕ)) → AreInto ends into → AreEnds ends start.labels.items → IsPending ends start.labels.items start.waits.items → IsStable ends last.labels.items
  pub outer : (ends : List (List ℕ)) (pairs : List Pair) → AreInto ends into → AreEnds ends start.labels.items → IsPending ends start.labels.items start.waits.items →
      AreCarried ends pairs → Joins pairs start.labels.items → Joins pairs last.labels.items

-- which classes wait at first: those to which an item leads where the first of its class leads to another
pub record AreWaiting (ends : List (List ℕ)) (labels : List ℕ) (waiting : Waiting) : Type 0 where
  pub count : length waiting.waits.items ≡ length labels
  pub told : (a k : ℕ) → a < length ends → k < length (slice_index_or ends a []) →
      (slice_index labels (end_at ends a k) ≡ slice_index labels (end_at ends (slice_index labels a) k)) ⊎ Waits waiting.waits.items (slice_index labels (end_at ends a k))
  pub queued : (label : ℕ) → Waits waiting.waits.items label → Contains waiting.queue.items label
  pub inside : (label : ℕ) → Contains waiting.queue.items label → label < length labels
