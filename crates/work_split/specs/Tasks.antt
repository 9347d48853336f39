-- What the workers are given.
use Rattle.std.specs.Prelude.{◌≡◌, ℕ, ◌<◌, List, length, slice_index_or}
use Rattle.std.specs.declared.ops.Range.{Range}
use Rattle.work_split.specs.declared.tasks.Job.{Job}

-- x stands at place i of the list; said of places that the list has
abbrev pub IsAt : {X : Type 0} → List X → ℕ → X → Type 0
IsAt xs i x = x ≡ slice_index_or xs i x

-- the job of worker w: its number, piece w, and what is given at w
pub record IsJob {T : Type 0} (pieces : List (Range ℕ)) (given : List T) (w : ℕ) (job : Job T) : Type 0 where
  pub worker : job.worker ≡ w
  pub piece : IsAt pieces w job.piece
  pub own : IsAt given w job.given

-- each job of the list is that of the worker of its place
abbrev pub EachIsJob : {T : Type 0} → List (Range ℕ) → List T → List (Job T) → Type 0
EachIsJob {T} pieces given jobs = (w : ℕ) (job : Job T) → w < length jobs → IsAt jobs w job → IsJob pieces given w job

-- the jobs are those of the pieces, one for each
pub record AreJobs {T : Type 0} (pieces : List (Range ℕ)) (given : List T) (jobs : List (Job T)) : Type 0 where
  pub count : length jobs ≡ length pieces
  pub each : EachIsJob pieces given jobs
