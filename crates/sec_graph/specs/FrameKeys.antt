-- A set of unwind records as a list.
use Rattle.std.specs.Prelude.{ℕ, List, map}
use Rattle.indexmap.specs.IndexSet.{IndexSet}
use Rattle.lk_tables.specs.declared.records.FrameNo.{FrameNo}
use Rattle.lk_tables.specs.Frames.{frame_no}

abbrev pub number_of : ℕ × ℕ → FrameNo
number_of key = frame_no key.0 key.1

abbrev pub numbers_of : {S : Type 0} → IndexSet (ℕ × ℕ) S → List FrameNo
numbers_of set = map number_of set.keys
