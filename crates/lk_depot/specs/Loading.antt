-- What it means to load a list of files.
use Rattle.std.specs.Prelude.{◌≡◌, ℕ, ◌<◌, List, [], ◌∷◌, ◌++◌, length, map, take, slice_index_or, Option, Some, IfSome, Result, Ok, Err}
use Rattle.std.specs.Global.{Vec}
use Rattle.std.specs.FinMap.{get}
use Rattle.lk_depot.specs.Faults.{Rose}
use Rattle.lk_depot.specs.Files.{Files, Lacks}
use Rattle.lk_depot.specs.Store.{Store}
use Rattle.lk_depot.specs.declared.stops.LoadAllStop.{LoadAllStop}
use Rattle.lk_depot.specs.declared.stops.LoadAllStop.TheVariants.{Absent, Failed, Memory}

-- As many contents as names, and, if the files are seen, each is the file of its name.
pub record AreContents (files : Option Files) (names contents : List (List ℕ)) : Type 0 where
  pub as_many : length contents ≡ length names
  pub found : IfSome files (λ m. map (get m) names ≡ map Some contents)

-- The names have contents: none of them is known to be lacking.
abbrev pub HaveContents : Option Files → List (List ℕ) → Type 0
HaveContents files names = (contents : List (List ℕ)) × AreContents files names contents

-- The name at this index.
abbrev pub name_at : List (List ℕ) → ℕ → List ℕ
name_at names index = slice_index_or names index []

-- The files are seen, they lack the name at this index, and they have each name before it.
pub record IsFirstLacking (files : Option Files) (names : List (List ℕ)) (index : ℕ) : Type 0 where
  pub within : index < length names
  pub lacks : Lacks files (name_at names index)
  pub earlier : HaveContents files (take index names)

-- The load of the name at this index failed: the faults rose, that name alone was added to the unread ones, and each name
-- before it has its content.
pub record FailedAt (before after : Store) (names : List (List ℕ)) (index : ℕ) : Type 0 where
  pub within : index < length names
  pub rose : Rose before.faults after.faults
  pub unread : after.unread ≡ before.unread ++ name_at names index ∷ []
  pub earlier : HaveContents before.files (take index names)

-- The bytes that are held in a list of buffers.
abbrev pub bytes_of_each : Vec (Vec ℕ) → List (List ℕ)
bytes_of_each buffers = map (λ buffer. buffer.items) buffers.items

-- What the loads of these names gave.
abbrev pub AfterLoads : Store → Store → List (List ℕ) → Result (Vec (Vec ℕ)) LoadAllStop → Type 0
AfterLoads before after names (Ok buffers) = AreContents before.files names (bytes_of_each buffers) × (after.unread ≡ before.unread)
AfterLoads before after names (Err (Absent index)) = IsFirstLacking before.files names index × (after.unread ≡ before.unread)
AfterLoads before after names (Err (Failed index)) = FailedAt before after names index
AfterLoads before after names (Err Memory) = after.unread ≡ before.unread
