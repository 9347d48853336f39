-- What loads of a list of names, one after another, answer and leave in a store in memory.
use Rattle.std.specs.Prelude.{◌≡◌, ◌≢◌, ℕ, ◌<◌, true, List, length, Result, Ok, Err, is_ok}
use Rattle.lk_depot.specs.Loading.{name_at}
use Rattle.lk_depot.specs.Shelf.{Shelf, answer_load, after_load, after_calls}
use Rattle.lk_depot.specs.declared.stops.LoadAllStop.{LoadAllStop}
use Rattle.lk_depot.specs.declared.stops.LoadAllStop.TheVariants as stops
use Rattle.lk_depot.specs.declared.stops.LoadStop.{LoadStop}
use Rattle.lk_depot.specs.declared.stops.LoadStop.TheVariants.{Absent, Failed, Memory}

-- Each of the first `n` loads gives a file: its call is not listed, and there is a file of its name.
abbrev pub GiveFiles : Shelf → List (List ℕ) → ℕ → Type 0
GiveFiles shelf names n = (i : ℕ) → i < n → is_ok (answer_load (after_calls shelf i) (name_at names i)) ≡ true

-- A load may stop so. Memory may end any load but one whose call is not listed and whose file is not there.
abbrev pub MayStop : Shelf → List ℕ → LoadStop → Type 0
MayStop shelf name Absent = answer_load shelf name ≡ Err Absent
MayStop shelf name Failed = answer_load shelf name ≡ Err Failed
MayStop shelf name Memory = answer_load shelf name ≢ Err Absent

-- The load at this index was the last that was made: each before it gave a file, it stopped so, and left the store as it is.
pub record StoppedAt (before after : Shelf) (names : List (List ℕ)) (index : ℕ) (stop : LoadStop) : Type 0 where
  pub within : index < length names
  pub earlier : GiveFiles before names index
  pub cause : MayStop (after_calls before index) (name_at names index) stop
  pub left : after ≡ after_load {T = List ℕ} (after_calls before index) (name_at names index) (Err stop)

-- All loads gave files, or one of them was the last. Want of memory does not say which.
abbrev pub LoadsEnd : {T : Type 0} → Shelf → Shelf → List (List ℕ) → Result T LoadAllStop → Type 0
LoadsEnd before after names (Ok _) = GiveFiles before names (length names) × (after ≡ after_calls before (length names))
LoadsEnd before after names (Err (stops.Absent index)) = StoppedAt before after names index Absent
LoadsEnd before after names (Err (stops.Failed index)) = StoppedAt before after names index Failed
LoadsEnd before after names (Err stops.Memory) = (index : ℕ) × StoppedAt before after names index Memory
