-- Classes of items by labels, and what a split of them does.
use Rattle.std.specs.Prelude.{◌≡◌, ◌≢◌, ◌⊎◌, ℕ, ◌+◌, ◌*◌, ◌<◌, ◌≤◌, ◌==◌, ◌&&◌, ◌^◌, Bool, true, false, if◌then◌else◌, List, [], ◌∷◌, ◌++◌, length, map, slice_index, slice_index_or, slice_set, Contains}
use Rattle.std.specs.Global.{Vec}
use Rattle.std.specs.List.{list_any}
use Rattle.icf_part.specs.declared.classes.Classes.{Classes}
use Rattle.icf_part.specs.Counts.{how_many, is_new}

-- a number of 32 bits and an item
abbrev pub word : (upper lower : ℕ) → ℕ
word upper lower = upper * 2 ^ 32 + lower

-- how many items have a label, and how many labels there are
abbrev pub size_of : (label : ℕ) → (labels : List ℕ) → ℕ
size_of label labels = how_many (λ a. slice_index labels a == label) (length labels)

abbrev pub class_count : (labels : List ℕ) → ℕ
class_count labels = how_many (is_new (λ b a. slice_index labels b == slice_index labels a)) (length labels)

-- the label of an item after those of a list that have one label got another
unfoldable pub relabelled : (part : List ℕ) → (from to : ℕ) → (labels : List ℕ) → (a : ℕ) → ℕ
relabelled part from to labels a = if slice_index labels a == from && list_any (λ b. b == a) part then to else slice_index labels a

abbrev pub lists_of : List (Vec ℕ) → List (List ℕ)
lists_of lists = map (λ list. list.items) lists

-- the label of an item
abbrev pub label_of : Classes → (a : ℕ) → ℕ
label_of c a = slice_index c.labels.items a

-- a label waits for its turn
abbrev pub Waits : (waits : List Bool) → (label : ℕ) → Type 0
Waits waits label = slice_index_or waits label false ≡ true

-- the columns of n items' classes fit one another
pub record IsKept (n : ℕ) (labels sizes : List ℕ) (members : List (List ℕ)) (waits : List Bool) (queue : List ℕ) : Type 0 where
  pub wide : length labels ≡ n
  pub below : (a : ℕ) → a < n → slice_index labels a < length sizes
  pub counted : (label : ℕ) → label < length sizes → slice_index sizes label ≡ size_of label labels
  pub member_lists : length members ≡ length sizes
  pub listed : (a : ℕ) → a < n → Contains (slice_index_or members (slice_index labels a) []) a
  pub within : (label a : ℕ) → Contains (slice_index_or members label []) a → a < n
  pub marks : length waits ≡ length sizes
  pub queued : (label : ℕ) → Waits waits label → Contains queue label
  pub inside : (label : ℕ) → Contains queue label → label < length sizes
  pub room : length sizes ≤ n + class_count labels

abbrev pub AreKept : (n : ℕ) → Classes → Type 0
AreKept n c = IsKept n c.labels.items c.sizes.items (lists_of c.members.items) c.waits.items c.queue.items

-- two items have one label, or the turn of one of theirs comes
abbrev pub IsSettled : (labels : List ℕ) → (waits : List Bool) → (x y : ℕ) → Type 0
IsSettled labels waits x y = (slice_index labels x ≡ slice_index labels y) ⊎ (Waits waits (slice_index labels x) ⊎ Waits waits (slice_index labels y))

-- classes are split: what is settled stays so, and each new class takes one place of the queue at most
pub record GoesOn (n : ℕ) (labels : List ℕ) (waits : List Bool) (queue : List ℕ) (labels2 : List ℕ) (waits2 : List Bool) (queue2 : List ℕ) : Type 0 where
  pub finer : (a b : ℕ) → a < n → b < n → slice_index labels2 a ≡ slice_index labels2 b → slice_index labels a ≡ slice_index labels b
  pub settled : (x y : ℕ) → x < n → y < n → IsSettled labels waits x y → IsSettled labels2 waits2 x y
  pub turns : length queue2 + class_count labels ≤ length queue + class_count labels2

abbrev pub GoOn : (n : ℕ) → (old new : Classes) → Type 0
GoOn n old new = GoesOn n old.labels.items old.waits.items old.queue.items new.labels.items new.waits.items new.queue.items

-- classes are split by a set of items: those in it go apart from those that are not, and no others
pub record AreSplit (n : ℕ) (Has : ℕ → Type 0) (old new : List ℕ) : Type 0 where
  pub apart : (a b : ℕ) → a < n → b < n → slice_index new a ≡ slice_index new b → Has a → Has b
  pub together : (a b : ℕ) → a < n → b < n → (Has a → Has b) → (Has b → Has a) → slice_index old a ≡ slice_index old b → slice_index new a ≡ slice_index new b

-- classes are split place by place, by words of a place and an item
pub record ArePlacesSplit (n : ℕ) (words old new : List ℕ) : Type 0 where
  pub apart : (k a b : ℕ) → a < n → b < n → slice_index new a ≡ slice_index new b → Contains words (word k a) → Contains words (word k b)
  pub together : (a b : ℕ) → a < n → b < n → ((k : ℕ) → Contains words (word k a) → Contains words (word k b)) →
      ((k : ℕ) → Contains words (word k b) → Contains words (word k a)) → slice_index old a ≡ slice_index old b → slice_index new a ≡ slice_index new b

-- one class is split by a list of its items
pub record IsPartSplit (n from : ℕ) (part old new : List ℕ) : Type 0 where
  pub apart : (a b : ℕ) → a < n → b < n → slice_index old a ≡ from → slice_index new a ≡ slice_index new b → Contains part a → Contains part b
  pub together : (a b : ℕ) → a < n → b < n → (Contains part a → Contains part b) → (Contains part b → Contains part a) → slice_index old a ≡ slice_index old b → slice_index new a ≡ slice_index new b
  pub others : (a : ℕ) → a < n → (slice_index old a ≢ from) → slice_index new a ≡ slice_index old a

-- so many steps for as many new classes
pub record Stands (n : ℕ) (old new : Classes) (before after : ℕ) : Type 0 where
  pub kept : AreKept n new
  pub goes : GoOn n old new
  pub steps : after + class_count old.labels.items ≡ before + class_count new.labels.items

-- one of two classes waits from now on: the new one if the old one does
pub record Adds (from : ℕ) (old new : Classes) : Type 0 where
  pub next : ℕ
  pub one : (next ≡ length old.sizes.items) ⊎ (next ≡ from)
  pub other : next ≡ from → Waits old.waits.items from → ⊥
  pub waits : new.waits.items ≡ slice_set (old.waits.items ++ false ∷ []) next true
  pub queue : new.queue.items ≡ old.queue.items ++ next ∷ []

-- by label, how many items have it
pub record AreSizes (labels sizes : List ℕ) : Type 0 where
  pub count : length sizes ≡ length labels
  pub each : (label : ℕ) → label < length labels → slice_index sizes label ≡ size_of label labels

-- by label, those of the first n items that have it
pub record AreItems (labels : List ℕ) (n : ℕ) (lists : List (List ℕ)) : Type 0 where
  pub count : length lists ≡ length labels
  pub all : (a : ℕ) → a < n → Contains (slice_index_or lists (slice_index labels a) []) a
  pub only : (label a : ℕ) → Contains (slice_index_or lists label []) a → a < n

-- the words of the first places of one item are added to the lists of the items to which these lead
pub record AreAdded (row : List ℕ) (count a : ℕ) (old new : List (List ℕ)) : Type 0 where
  pub wide : length new ≡ length old
  pub kept : (t w : ℕ) → Contains (slice_index_or old t []) w → Contains (slice_index_or new t []) w
  pub all : (k : ℕ) → k < count → Contains (slice_index_or new (slice_index row k) []) (word k a)
  pub only : (t w : ℕ) → Contains (slice_index_or new t []) w → Contains (slice_index_or old t []) w ⊎ ((k : ℕ) × ((k < count) × ((slice_index row k ≡ t) × (w ≡ word k a))))

-- marks and queue grow: nobody stops waiting, who waits is in the queue, and all there have a mark
pub record IsLonger (waits : List Bool) (queue : List ℕ) (waits2 : List Bool) (queue2 : List ℕ) : Type 0 where
  pub wide : length waits2 ≡ length waits
  pub kept : (label : ℕ) → Waits waits label → Waits waits2 label
  pub queued : ((label : ℕ) → Waits waits label → Contains queue label) → (label : ℕ) → Waits waits2 label → Contains queue2 label
  pub inside : ((label : ℕ) → Contains queue label → label < length waits) → (label : ℕ) → Contains queue2 label → label < length waits2
