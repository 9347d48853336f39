-- What is known of real files: what failed, and nothing of what the files hold.
use Rattle.std.specs.Prelude.{ℕ, List, [], ◌∷◌, ◌++◌, None, Result, Ok, Err}
use Rattle.lk_depot.specs.Faults.{next_count}
use Rattle.lk_depot.specs.Loading.{name_at}
use Rattle.lk_depot.specs.Store.{Store}
use Rattle.lk_depot.specs.declared.stops.Failed.{Failed as Fault}
use Rattle.lk_depot.specs.declared.stops.LoadAllStop.{LoadAllStop}
use Rattle.lk_depot.specs.declared.stops.LoadAllStop.TheVariants as stops
use Rattle.lk_depot.specs.declared.stops.LoadStop.{LoadStop}
use Rattle.lk_depot.specs.declared.stops.LoadStop.TheVariants.{Absent, Failed, Memory}

-- `faults` counts the calls that failed, `begun` the files that were begun, and `unread` lists the names whose load failed.
pub record RealFiles : Type 0 where
  pub faults : ℕ
  pub begun : ℕ
  pub unread : List (List ℕ)

-- What it means as a depot: it shows neither files nor kinds.
abbrev pub store_of : RealFiles → Store
store_of real = record { files = None; kinds = None; faults = real.faults; begun = real.begun; unread = real.unread }

-- One more call failed.
abbrev pub with_fault : RealFiles → RealFiles
with_fault real = record real { faults = next_count real.faults }

-- The load of this name failed too: it counts, and its name is kept.
abbrev pub with_unread : RealFiles → List ℕ → RealFiles
with_unread real name = record (with_fault real) { unread = real.unread ++ name ∷ [] }

-- A load changes nothing, unless it fails.
abbrev pub after_load : {T : Type 0} → RealFiles → List ℕ → Result T LoadStop → RealFiles
after_load real name (Ok _) = real
after_load real name (Err Absent) = real
after_load real name (Err Failed) = with_unread real name
after_load real name (Err Memory) = real

-- The loads of a list change nothing, unless one fails: that one counts, and its name is kept.
abbrev pub after_loads : {T : Type 0} → RealFiles → List (List ℕ) → Result T LoadAllStop → RealFiles
after_loads real names (Ok _) = real
after_loads real names (Err (stops.Absent place)) = real
after_loads real names (Err (stops.Failed place)) = with_unread real (name_at names place)
after_loads real names (Err stops.Memory) = real

-- An append that fails counts.
abbrev pub after_append : {T : Type 0} → RealFiles → Result T Fault → RealFiles
after_append real (Ok _) = real
after_append real (Err _) = with_fault real

-- Each begin counts, and one that fails counts as a fault too.
abbrev pub after_begin : {T : Type 0} → RealFiles → Result T Fault → RealFiles
after_begin real result = after_append (record real { begun = next_count real.begun }) result
