-- Files in another order, in which members come one after another as before: objects of the command were moved among its archives.
use Rattle.std.specs.Prelude.{◌≡◌, ℕ, ◌<◌, ◌≤◌, true, false, List, length, slice_index_or}
use Rattle.lk_tables.specs.Files.{File, file_at}
use Rattle.file_live.specs.Live.{live_of}

-- `to` says where each file stands now, and `from` where it stood
pub record IsMoved (files moved : List File) (to from : ℕ → ℕ) : Type 0 where
  pub long : length files ≡ length moved
  pub inside : (f : ℕ) → f < length files → to f < length files
  pub outside : (f : ℕ) → f < length files → from f < length files
  pub back : (f : ℕ) → f < length files → from (to f) ≡ f
  pub there : (f : ℕ) → f < length files → to (from f) ≡ f
  pub same : (f : ℕ) → f < length files → file_at files f ≡ file_at moved (to f)
  pub members : (f g : ℕ) → f ≤ g → g < length files → (file_at files f).member ≡ true → (file_at files g).member ≡ true → to f ≤ to g

-- an archive may stand anywhere among the objects: the same files take part
abbrev pub StandsAnywhere : (undefined : List (List ℕ)) → List File → Type 0
StandsAnywhere undefined files = (moved : List File) (to from : ℕ → ℕ) → IsMoved files moved to from →
    (f : ℕ) → f < length files → slice_index_or (live_of undefined files) f false ≡ slice_index_or (live_of undefined moved) (to f) false
