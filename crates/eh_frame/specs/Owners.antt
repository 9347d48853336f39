-- The functions of the records of a list, and the lists of FDEs by section, one record and one list more.
use Rattle.std.specs.Prelude.{ℕ, Option, Some, None, List, [], ◌∷◌, ◌++◌, length, map, if◌then◌else◌, slice_index_or, slice_set}
use Rattle.std.specs.List.{range_with_len}
use Rattle.lk_tables.specs.Binding.{Bindings}
use Rattle.lk_tables.specs.Files.{File}
use Rattle.lk_tables.specs.Targets.{is_gone}
use Rattle.lk_tables.specs.declared.records.FrameNo.{FrameNo}
use Rattle.lk_tables.specs.Frames.{RecordList, frame_no, owner_at, owner_in}
use Rattle.lk_tables.specs.Sites.{place_of}

-- an FDE added to the list of a section
abbrev pub with_frame : Option ℕ → FrameNo → List (List FrameNo) → List (List FrameNo)
with_frame None frame lists = lists
with_frame (Some a) frame lists = slice_set lists a (slice_index_or lists a [] ++ (frame ∷ []))

module _ (files : List File) (b : Bindings) where
  -- the sections whose functions the records of a list are for, record by record
  abbrev pub owners_in : RecordList → List (Option ℕ)
  owners_in l = map (owner_in files b (place_of files l.section).file) l.records

  -- the records of these numbers of a list added
  abbrev pub with_records : RecordList → List ℕ → List (List FrameNo) → List (List FrameNo)
  with_records l [] lists = lists
  with_records l (at ∷ ats) lists = with_records l ats (with_frame (owner_at files b l at) (frame_no l.section at) lists)

  unfoldable pub lists_after : RecordList → List (List FrameNo) → List (List FrameNo)
  lists_after l lists = if is_gone b l.section then lists else with_records l (range_with_len 0 (length l.records)) lists
