-- What workers make of the records that are written, each of a run of the FDEs, by their numbers.
use Rattle.std.specs.Prelude.{ℕ, ◌==◌, Option, if◌then◌else◌, List, [], ◌++◌, map, flat_map, slice_index, slice_index_or}
use Rattle.lk_tables.specs.Binding.{Bindings}
use Rattle.lk_tables.specs.Files.{File}
use Rattle.lk_tables.specs.Frames.{RecordList}
use Rattle.link_sections.specs.LaidOut.{LaidOut}
use Rattle.eh_frame.specs.declared.placing.Placed.{Placed}
use Rattle.eh_frame.specs.Bytes.{cie_bytes, fde_bytes, no_place}

module _ (files : List File) (b : Bindings) (leaders : List (Option ℕ)) (laid : LaidOut) (lists : List RecordList) (start : ℕ) (cies fdes : List Placed) (uses : List ℕ) where
  -- the bytes of FDE k
  abbrev pub fde_at : ℕ → List ℕ
  fde_at k = fde_bytes files b leaders laid lists start (slice_index (map (λ (c : Placed). c.at) cies) (slice_index uses k)) (slice_index_or fdes k no_place)

  -- the bytes of FDE k, and before the first those of the CIEs
  abbrev pub bytes_at : ℕ → List ℕ
  bytes_at k = (if k == 0 then flat_map (cie_bytes files b leaders laid lists start) cies else []) ++ fde_at k
