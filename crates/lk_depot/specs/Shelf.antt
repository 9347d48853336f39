-- A store of files in memory: what it holds, and what each call does to it.
use Rattle.std.specs.Prelude.{ℕ, ◌+◌, ◌-◌, ◌^◌, min, max, Bool, not, ◌||◌, ◌&&◌, ◌==◌, nat_lt, nat_le, if◌then◌else◌, List, [], ◌∷◌, ◌++◌, length, take, Some, Result, Ok, Err, ok_or}
use Rattle.std.specs.FinMap.{get, insert, contains_key, len}
use Rattle.lk_depot.specs.Faults.{next_count, is_listed}
use Rattle.lk_depot.specs.Files.{Files, Kinds, content, added}
use Rattle.lk_depot.specs.Store.{Store}
use Rattle.lk_depot.specs.declared.kinds.FileKind.{FileKind}
use Rattle.lk_depot.specs.declared.stops.Failed.{Failed as Fault}
use Rattle.lk_depot.specs.declared.stops.LoadStop.{LoadStop}
use Rattle.lk_depot.specs.declared.stops.LoadStop.TheVariants.{Absent, Failed, Memory}

-- `kinds` has the outputs: the files that were begun. `fails` lists the calls that are to fail, `calls` counts the calls so
-- far, `most` is the most bytes that one append takes, and `room` the most bytes of an output.
pub record Shelf : Type 0 where
  pub files : Files
  pub kinds : Kinds
  pub faults : ℕ
  pub begun : ℕ
  pub calls : ℕ
  pub unread : List (List ℕ)
  pub fails : List ℕ
  pub most : ℕ
  pub room : ℕ

-- What it means as a depot: it shows all its files and their kinds.
abbrev pub store_of : Shelf → Store
store_of shelf = record {
  files = Some shelf.files;
  kinds = Some shelf.kinds;
  faults = shelf.faults;
  begun = shelf.begun;
  unread = shelf.unread;
}

-- Whether the call at hand is to fail.
abbrev pub fails_now : Shelf → Bool
fails_now shelf = is_listed shelf.fails shelf.calls

-- Whether a file was begun.
abbrev pub is_output : Shelf → List ℕ → Bool
is_output shelf name = contains_key shelf.kinds name

-- What a load answers, if there is memory.
abbrev pub answer_load : Shelf → List ℕ → Result (List ℕ) LoadStop
answer_load shelf name = (if fails_now shelf then Err Failed else ok_or (get shelf.files name) Absent)

-- Each load counts as a call. One that fails counts as a fault too, and its name is kept.
abbrev pub after_load : {T : Type 0} → Shelf → List ℕ → Result T LoadStop → Shelf
after_load shelf name (Ok _) = record shelf { calls = next_count shelf.calls }
after_load shelf name (Err Absent) = record shelf { calls = next_count shelf.calls }
after_load shelf name (Err Failed) = record shelf { calls = next_count shelf.calls; faults = next_count shelf.faults; unread = shelf.unread ++ name ∷ [] }
after_load shelf name (Err Memory) = record shelf { calls = next_count shelf.calls }

-- How many calls there were after so many more: each raises the count by one, which stands still at the last number of a u64.
abbrev pub calls_after : ℕ → ℕ → ℕ
calls_after more calls = max calls (min (calls + more) (2 ^ 64 - 1))

-- The shelf after so many loads that each gave a file.
abbrev pub after_calls : Shelf → ℕ → Shelf
after_calls shelf more = record shelf { calls = calls_after more shelf.calls }

-- A begin fails exactly if the call is listed, the name is longer than 256 bytes, or two other files are outputs.
abbrev pub refuses_begin : Shelf → List ℕ → Bool
refuses_begin shelf name = fails_now shelf || (nat_lt 256 (length name) || (not (is_output shelf name) && nat_le 2 (len shelf.kinds)))

-- What a begin answers.
abbrev pub answer_begin : Shelf → List ℕ → Result (Unit {0}) Fault
answer_begin shelf name = (if refuses_begin shelf name then Err (record {}) else Ok tt)

-- Each begin counts, also one that fails. One that does not makes the file empty.
abbrev pub after_begin : Shelf → List ℕ → FileKind → Shelf
after_begin shelf name kind =
    (if refuses_begin shelf name
    then record shelf { calls = next_count shelf.calls; begun = next_count shelf.begun; faults = next_count shelf.faults }
    else record shelf {
      calls = next_count shelf.calls;
      begun = next_count shelf.begun;
      files = insert shelf.files name [];
      kinds = insert shelf.kinds name kind;
    })

-- How many bytes an output still takes.
abbrev pub room_left : Shelf → List ℕ → ℕ
room_left shelf name = shelf.room - length (content shelf.files name)

-- An append fails exactly if the call is listed, the file is no output, or it has no room left.
abbrev pub refuses_append : Shelf → List ℕ → Bool
refuses_append shelf name = fails_now shelf || (not (is_output shelf name) || (room_left shelf name == 0))

-- As much as one append takes and as fits.
abbrev pub length_appended : Shelf → List ℕ → List ℕ → ℕ
length_appended shelf name piece = min (min (length piece) shelf.most) (room_left shelf name)

-- What an append answers.
abbrev pub answer_append : Shelf → List ℕ → List ℕ → Result ℕ Fault
answer_append shelf name piece = (if refuses_append shelf name then Err (record {}) else Ok (length_appended shelf name piece))

-- Each append counts as a call. One that does not fail adds what it takes.
abbrev pub after_append : Shelf → List ℕ → List ℕ → Shelf
after_append shelf name piece =
    (if refuses_append shelf name
    then record shelf { calls = next_count shelf.calls; faults = next_count shelf.faults }
    else record shelf {
      calls = next_count shelf.calls;
      files = added name (take (length_appended shelf name piece) piece) shelf.files;
    })
