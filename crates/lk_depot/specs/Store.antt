-- What a depot means.
use Rattle.std.specs.Prelude.{ℕ, List, [], ◌∷◌, ◌++◌, Option, Result, Ok, Err}
use Rattle.lk_depot.specs.Files.{Files, Kinds}
use Rattle.lk_depot.specs.declared.stops.LoadStop.{LoadStop}
use Rattle.lk_depot.specs.declared.stops.LoadStop.TheVariants.{Absent, Failed, Memory}

-- `files` and `kinds` are `None` if the depot does not show them. `faults` counts failed calls, `begun` the files that
-- were begun, and `unread` lists the names whose load failed.
pub record Store : Type 0 where
  pub files : Option Files
  pub kinds : Option Kinds
  pub faults : ℕ
  pub begun : ℕ
  pub unread : List (List ℕ)

-- The names that could not be read, after a load of this name.
abbrev pub unread_after : {T : Type 0} → Result T LoadStop → List ℕ → List (List ℕ) → List (List ℕ)
unread_after (Ok _) name unread = unread
unread_after (Err Absent) name unread = unread
unread_after (Err Failed) name unread = unread ++ name ∷ []
unread_after (Err Memory) name unread = unread
