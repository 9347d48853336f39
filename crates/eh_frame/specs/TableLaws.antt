-- What the table of functions in `.eh_frame_hdr` promises (LSB Core, "Exception Frames", the .eh_frame_hdr section): a search by bisection finds each FDE that is written.
use Rattle.std.specs.Prelude.{◌≡◌, ℕ, ◌+◌, ◌^◌, ◌<◌, ◌≤ℤ◌, ◌-ℤ◌, pos, negsuc, List, [], ◌++◌, length, take, drop, flat_map, Option}
use Rattle.std.specs.List.{AllPairs}
use Rattle.std.specs.List.Sorted.{IsPermutation}
use Rattle.lk_tables.specs.Binding.{Bindings}
use Rattle.lk_tables.specs.Files.{File}
use Rattle.lk_tables.specs.Frames.{RecordList}
use Rattle.link_sections.specs.LaidOut.{LaidOut}
use Rattle.eh_frame.specs.declared.placing.Placed.{Placed}
use Rattle.eh_frame.specs.Header.{encodings, entry_of, function_of, word}

-- the function of an FDE stands no lower than an addend of 64 bits can lead
abbrev pub NotLow : List File → Bindings → (leaders : List (Option ℕ)) → LaidOut → List RecordList → Placed → Type 0
NotLow files b leaders laid lists p = negsuc (2 ^ 63) ≤ℤ function_of files b leaders laid lists p

-- the 12 bytes before the table: the version and the encodings, how far it is from the second word to `.eh_frame`, and how many functions there are
abbrev pub first_bytes : (header start count : ℕ) → List ℕ
first_bytes header start count = encodings ++ (word (pos start -ℤ pos (header + 4)) ++ word (pos count))

-- after these the table has an entry for each of these FDEs, once and no other, in order of the addresses of their functions; without an FDE there
-- is nothing
pub record IsTable (files : List File) (b : Bindings) (leaders : List (Option ℕ)) (laid : LaidOut) (lists : List RecordList) (fdes : List Placed) (header start : ℕ) (bytes : List ℕ) : Type 0 where
  pub entries : List Placed
  pub each : IsPermutation fdes entries
  pub order : AllPairs (λ (first : Placed) (second : Placed). function_of files b leaders laid lists first ≤ℤ function_of files b leaders laid lists second) entries
  pub first : 0 < length fdes → take 12 bytes ≡ first_bytes header start (length fdes)
  pub none : length fdes ≡ 0 → bytes ≡ []
  pub bytes_are : drop 12 bytes ≡ flat_map (entry_of files b leaders laid lists header start) entries
