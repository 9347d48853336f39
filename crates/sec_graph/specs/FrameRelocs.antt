-- The relocations of the unwind records of functions (LSB Core, "Exception Frames"): by those of an FDE but that of PC Begin, and by those of its
-- CIE, a function needs its table of exceptions and the routine that reads it.
use Rattle.std.specs.Prelude.{◌≡◌, ℕ, ◌+◌, ◌==◌, ◌&&◌, Bool, Option, unwrap_or, if◌then◌else◌, fold, find, List, [], ◌∷◌, ◌++◌, map, take, drop}
use Rattle.std.specs.List.{list_any, position_or_len}
use Rattle.std.specs.Ordering.{int_eq}
use Rattle.lk_tables.specs.declared.frames.Frames.{Frames}
use Rattle.lk_tables.specs.declared.objects.Reloc.{Reloc}
use Rattle.lk_tables.specs.declared.records.FrameNo.{FrameNo}
use Rattle.lk_tables.specs.Binding.{Bindings}
use Rattle.lk_tables.specs.Files.{File}
use Rattle.lk_tables.specs.Frames.{AreListsWithin, RecordList, all_frames, all_lists, frame_no, frames_by_section, lists_of, no_record, record_at}
pub use Rattle.lk_tables.specs.Frames.{cie_no, record_by}
use Rattle.lk_tables.specs.Records.{has_width}

-- the records are those of the files' sections, and each FDE is listed with the section of its function
pub record AreFramesOf (files : List File) (b : Bindings) (frames : Frames) : Type 0 where
  pub lists : lists_of frames ≡ all_lists files
  pub of : frames_by_section frames ≡ all_frames files b (all_lists files)
  pub within : AreListsWithin files (lists_of frames)

-- of the relocations of an FDE all but that of PC Begin, the first that has bytes
unfoldable pub others : List Reloc → List Reloc
others relocs = take (position_or_len has_width relocs) relocs ++ drop (position_or_len has_width relocs + 1) relocs

abbrev pub same_reloc : Reloc → Reloc → Bool
same_reloc r q = r.offset == q.offset && (r.kind == q.kind && (r.symbol == q.symbol && int_eq r.addend q.addend))

-- a relocation is one of a list
unfoldable pub has_reloc : List Reloc → Reloc → Bool
has_reloc relocs r = list_any (same_reloc r) relocs

-- the list of a section's records
abbrev pub list_in : List RecordList → (section : ℕ) → Option RecordList
list_in lists section = find (λ (l : RecordList). l.section == section) lists

-- a record added to those that are known, if it is none of them
abbrev pub same_no : FrameNo → FrameNo → Bool
same_no n m = n.section == m.section && n.at == m.at

abbrev pub with_no : List FrameNo → FrameNo → List FrameNo
with_no known number = if list_any (same_no number) known then known else known ++ number ∷ []

module _ (lists : List RecordList) where
  -- the CIEs of FDEs, each once, by first use
  unfoldable pub cies_of : (fdes : List FrameNo) → List FrameNo
  cies_of fdes = fold with_no [] (map (cie_no lists) fdes)

  -- the relocations of an FDE but that of PC Begin, and those of its CIE
  unfoldable pub frame_relocs : FrameNo → List Reloc
  frame_relocs fde = others (record_by lists fde).relocs ++ (record_by lists (cie_no lists fde)).relocs
