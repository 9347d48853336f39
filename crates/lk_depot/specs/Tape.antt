-- A stream in memory: what it holds, and what each call does to it.
use Rattle.std.specs.Prelude.{ℕ, ◌-◌, min, Bool, ◌||◌, ◌==◌, if◌then◌else◌, List, ◌++◌, length, take, Some, Result, Ok, Err}
use Rattle.lk_depot.specs.Faults.{next_count, is_listed}
use Rattle.lk_depot.specs.Output.{Output}
use Rattle.lk_depot.specs.declared.stops.Failed.{Failed}

-- `fails` lists the calls that are to fail, `calls` counts the calls so far, and `room` is the most bytes that it takes in all.
pub record Tape : Type 0 where
  pub written : List ℕ
  pub faults : ℕ
  pub calls : ℕ
  pub fails : List ℕ
  pub room : ℕ

-- What it means as a sink: it shows all that was written.
abbrev pub output_of : Tape → Output
output_of tape = record { written = Some tape.written; faults = tape.faults }

-- How many bytes it still takes.
abbrev pub room_left : Tape → ℕ
room_left tape = tape.room - length tape.written

-- A put fails exactly if the call is listed or there is no room left.
abbrev pub refuses_put : Tape → Bool
refuses_put tape = is_listed tape.fails tape.calls || (room_left tape == 0)

-- As much as fits.
abbrev pub length_put : Tape → List ℕ → ℕ
length_put tape piece = min (length piece) (room_left tape)

-- What a put answers.
abbrev pub answer_put : Tape → List ℕ → Result ℕ Failed
answer_put tape piece = (if refuses_put tape then Err (record {}) else Ok (length_put tape piece))

-- Each put counts as a call. One that does not fail writes what it takes.
abbrev pub after_put : Tape → List ℕ → Tape
after_put tape piece =
    (if refuses_put tape
    then record tape { calls = next_count tape.calls; faults = next_count tape.faults }
    else record tape { calls = next_count tape.calls; written = tape.written ++ take (length_put tape piece) piece })
