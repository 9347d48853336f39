-- Texts that workers have placed in a table, each in a slot.
use Rattle.std.specs.Prelude.{◌≡◌, ℕ, ◌+◌, ◌-◌, ◌<◌, ◌≤◌, ◌⊎◌, Option, Some, Result, IfOk, IfSome, List, length, map, slice_index, All, Contains}
use Rattle.std.specs.Borrow.{Bor}
use Rattle.std.specs.Global.{Vec}
use Rattle.std.specs.declared.ops.Range.{Range}
use Rattle.intern_race.specs.declared.rule.Pair.{Pair}
use Rattle.intern_race.specs.Texts.{AreTags}
use Rattle.intern_race.specs.Interning.{SeatView, SitsAt, TableView, pair}
use Rattle.std.specs.List.{range_with_len}
use Rattle.work_split.specs.Tasks.{IsAt}
use Rattle.lk_base.specs.declared.defects.LinkStop.{LinkStop}
use Rattle.name_numbers.specs.Texts.{hash_at, lent_texts, number_at, text_at}
use Rattle.name_numbers.specs.declared.hash_lists.Hashes.{Hashes}
use Rattle.name_numbers.specs.declared.blocks.Block.{Block}
use Rattle.name_numbers.specs.declared.racing.Placed.{Placed}

-- of so many texts, from one on, the slots of the table in which they are placed, in order
pub record HasSlots (t : TableView) (placed : List Pair) (start count : ℕ) (slots : List ℕ) : Type 0 where
  pub wide : length slots ≡ count
  pub within : (k : ℕ) → k < count → slice_index slots k < t.slots
  pub each : (k : ℕ) → k < count → Contains placed (pair (slice_index slots k) (start + k))

-- the hashes of the texts of a piece, if there was memory for them
abbrev pub HasHashes : (texts : List (List ℕ)) → Range ℕ → Result (Vec ℕ) LinkStop → Type 0
HasHashes texts piece r = IfOk r (λ list. list.items ≡ map (hash_at texts) (range_with_len piece.start (piece.end - piece.start)))

-- the hashes of each piece
pub record AreHashes (texts : List (List ℕ)) (cuts : List (Range ℕ)) (lists : List (Result (Vec ℕ) LinkStop)) : Type 0 where
  pub count : length lists ≡ length cuts
  pub each : (w : ℕ) (p : Range ℕ) (r : Result (Vec ℕ) LinkStop) → w < length cuts → IsAt cuts w p → IsAt lists w r → HasHashes texts p r

-- the hashes of each piece, and the tags of all texts
pub record AreHashed (texts : List (List ℕ)) (cuts : List (Range ℕ)) (h : Hashes) : Type 0 where
  pub hashes : AreHashes texts cuts h.hashes.items
  pub tags : AreTags texts h.tags.items

-- for each of so many texts, from one on, the number of an equal one
pub record AreAlike (texts : List (List ℕ)) (from count : ℕ) (numbers : List ℕ) : Type 0 where
  pub wide : count ≤ length numbers
  pub each : (k : ℕ) → k < count → text_at texts (slice_index numbers k) ≡ text_at texts (from + k)

-- numbers of texts, and these texts
pub record AreOthers (texts : List (List ℕ)) (count : ℕ) (numbers : List ℕ) (list : List (Bor (List ℕ))) : Type 0 where
  pub numbered : length numbers ≡ count
  pub listed : length list ≡ count
  pub each : (n : ℕ) → n < count → text_at (lent_texts list) n ≡ text_at texts (slice_index numbers n)

-- there is room for a block of texts
pub record HasRoom (b : Block) : Type 0 where
  pub met : length b.met.items ≡ 512
  pub near : length b.near.items ≡ 512
  pub rest : length b.rest.items ≡ 512
  pub alike : length b.alike.items ≡ 512
  pub early : length b.early.items ≡ 512

-- the slot of a text that is not placed
abbrev pub no_slot : ℕ
no_slot = 0xffffffff

-- of so many texts, from one on, the slots of the table in which they are placed, of each that has one
pub record AreEarly (t : TableView) (placed : List Pair) (from count : ℕ) (slots : List ℕ) : Type 0 where
  pub wide : count ≤ length slots
  pub each : (k : ℕ) → k < count → (slice_index slots k ≡ no_slot) ⊎ ((slice_index slots k < t.slots) × Contains placed (pair (slice_index slots k) (from + k)))

-- what is placed stays placed
abbrev pub KeepsPlaced : (old new : List Pair) → Type 0
KeepsPlaced old new = (p : Pair) → Contains old p → Contains new p

-- a seat of this table that knows of these texts
pub record Knows (t : TableView) (placed : List Pair) (s : SeatView) : Type 0 where
  pub sits : SitsAt t s
  pub same : s.placed ≡ placed

-- a worker's seat, and its texts' slots if it has placed them
pub record HasDone (t : TableView) (piece : Range ℕ) (y : Placed) : Type 0 where
  pub sits : SitsAt t y.seat
  pub slots : IfSome y.slots (λ slots. HasSlots t y.seat.placed piece.start (piece.end - piece.start) slots.items)

pub record AreDone (t : TableView) (cuts : List (Range ℕ)) (done : List Placed) : Type 0 where
  pub count : length done ≡ length cuts
  pub seated : All (λ y. SitsAt t y.seat) done
  pub each : (w : ℕ) (p : Range ℕ) (y : Placed) → w < length cuts → IsAt cuts w p → IsAt done w y → HasDone t p y

abbrev pub slots_of : Placed → Option (Vec ℕ)
slots_of y = y.slots

-- a seat knows what each worker's did, and the slots are listed worker by worker
pub record AreJoined (t : TableView) (done : List Placed) (s : SeatView) (lists : List (Vec ℕ)) : Type 0 where
  pub sits : SitsAt t s
  pub kept : All (λ y. KeepsPlaced y.seat.placed s.placed) done
  pub slots : map slots_of done ≡ map (λ list. Some list) lists

-- the slots of each piece
pub record AreSlots (t : TableView) (cuts : List (Range ℕ)) (placed : List Pair) (lists : List (Vec ℕ)) : Type 0 where
  pub count : length lists ≡ length cuts
  pub each : (w : ℕ) (p : Range ℕ) (list : Vec ℕ) → w < length cuts → IsAt cuts w p → IsAt lists w list → HasSlots t placed p.start (p.end - p.start) list.items

-- each of so many texts is placed
abbrev pub ArePlaced : (count : ℕ) → List Pair → Type 0
ArePlaced count placed = (i : ℕ) → i < count → (k : ℕ) × Contains placed (pair k i)

-- the first so many texts are placed, and their numbers listed
pub record AreNumbered (texts : List (List ℕ)) (placed : List Pair) (count : ℕ) (numbers : List ℕ) : Type 0 where
  pub all : ArePlaced count placed
  pub list : numbers ≡ map (number_at texts) (range_with_len 0 count)

-- a seat that knows where each of so many texts is placed, with the slots of each piece
pub record IsReady (t : TableView) (count : ℕ) (cuts : List (Range ℕ)) (s : SeatView) (lists : List (Vec ℕ)) : Type 0 where
  pub sits : SitsAt t s
  pub all : ArePlaced count s.placed
  pub slots : AreSlots t cuts s.placed lists
