-- What reading a list of files gives, of which nothing is known but whether each could be read.
use Rattle.std.specs.Prelude.{◌≡◌, ℕ, ◌<◌, List, [], ◌∷◌, ◌++◌, length, map, Option, None, Some, Result, Ok, Err}
use Rattle.std.specs.Global.{Vec}
use Rattle.lk_base.specs.declared.defects.Defect.{Defect}
use Rattle.lk_depot.specs.declared.stops.LoadAllStop.{LoadAllStop}
use Rattle.lk_depot.specs.declared.stops.LoadAllStop.TheVariants as stops

-- A worker that reads finds no defect.
abbrev pub no_defects : ℕ → List Defect
no_defects at = []

-- Any bytes may be those of a file, and any file may be one that could not be read.
abbrev pub IsAny : ℕ → Option (Vec ℕ) → Type 0
IsAny at file = Unit {0}

-- The files before this place were read, and the one at it was not.
pub record IsFirstUnread (files : List (Option (Vec ℕ))) (place : ℕ) : Type 0 where
  pub before : List (Vec ℕ)
  pub after : List (Option (Vec ℕ))
  pub whole : files ≡ map Some before ++ None ∷ after
  pub here : length before ≡ place

-- All files, in order, if each was read; else the place of the first that was not; or out of memory.
abbrev pub AreRead : List (Option (Vec ℕ)) → Result (Vec (Vec ℕ)) LoadAllStop → Type 0
AreRead files (Ok buffers) = files ≡ map Some buffers.items
AreRead files (Err (stops.Absent place)) = ⊥
AreRead files (Err (stops.Failed place)) = IsFirstUnread files place
AreRead files (Err stops.Memory) = Unit {0}

-- One buffer for each of so many names; or the place of one of them; or out of memory. No file is reported as absent.
abbrev pub IsOfNames : ℕ → Result (Vec (Vec ℕ)) LoadAllStop → Type 0
IsOfNames count (Ok buffers) = length buffers.items ≡ count
IsOfNames count (Err (stops.Absent place)) = ⊥
IsOfNames count (Err (stops.Failed place)) = place < count
IsOfNames count (Err stops.Memory) = Unit {0}
