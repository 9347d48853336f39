-- What the bytes of `.eh_frame` promise (LSB Core, "Exception Frames"): each FDE that is written stands whole in it, and its CIE Pointer leads to a CIE that is equal to its own.
use Rattle.std.specs.Prelude.{◌≡◌, ℕ, ◌+◌, ◌-◌, ◌^◌, ◌<◌, ◌≤◌, ◌≤ℤ◌, negsuc, true, Option, List, length, take, drop, slice_index, slice_index_or}
use Rattle.std.specs.List.{All}
use Rattle.byteorder.specs.Endian.{little_bytes}
use Rattle.lk_tables.specs.declared.objects.Reloc.{Reloc}
use Rattle.lk_tables.specs.Binding.{Bindings}
use Rattle.lk_tables.specs.Files.{File}
use Rattle.lk_tables.specs.FramePlans.{PlanView}
use Rattle.lk_tables.specs.Frames.{RecordList, frame_no}
use Rattle.lk_tables.specs.Records.{RecordView, has_width}
use Rattle.link_sections.specs.LaidOut.{LaidOut}
use Rattle.eh_frame.specs.declared.placing.Placed.{Placed}
use Rattle.eh_frame.specs.Bytes.{cie_bytes, fde_bytes, placed_cies, placed_fdes, no_place}
use Rattle.eh_frame.specs.Laws.{IsPlanned}
use Rattle.eh_frame.specs.TableLaws.{IsTable}

-- a relocation of a record as it is read, of a record that starts at an offset: its bytes, if it has some, stand after the CIE ID or the CIE
-- Pointer, and its addend is no lower than a number of 64 bits can be
pub record IsPlain (from : ℕ) (q : Reloc) : Type 0 where
  pub after : has_width q ≡ true → from + 8 ≤ q.offset
  pub low : negsuc (2 ^ 63) ≤ℤ q.addend

abbrev pub HasPlain : RecordView → Type 0
HasPlain r = All (IsPlain r.from) r.relocs

abbrev pub ArePlain : List RecordList → Type 0
ArePlain lists = All (λ (l : RecordList). All HasPlain l.records) lists

-- some bytes stand at an offset of others
abbrev pub StandAt : (at : ℕ) → (part whole : List ℕ) → Type 0
StandAt at part whole = take (length part) (drop at whole) ≡ part

-- FDE k of a plan and its CIE stand whole in these bytes, which stand at `start`, where the plan places them; its CIE Pointer, the second word of
-- 4 bytes, is the distance from that word back to the CIE
pub record IsFdeWritten (files : List File) (b : Bindings) (leaders : List (Option ℕ)) (laid : LaidOut) (lists : List RecordList) (plan : PlanView) (start : ℕ) (bytes : List ℕ) (k : ℕ) : Type 0 where
  pub fde : Placed
  pub cie : Placed
  pub fde_is : fde ≡ slice_index_or (placed_fdes lists plan) k no_place
  pub cie_is : cie ≡ slice_index_or (placed_cies lists plan) (slice_index plan.uses k) no_place
  pub fde_number : fde.number ≡ slice_index_or plan.fdes k (frame_no 0 0)
  pub cie_number : cie.number ≡ slice_index_or plan.cies (slice_index plan.uses k) (frame_no 0 0)
  pub before : cie.at < fde.at
  pub fde_stands : StandAt fde.at (fde_bytes files b leaders laid lists start cie.at fde) bytes
  pub cie_stands : StandAt cie.at (cie_bytes files b leaders laid lists start cie) bytes
  pub pointer : StandAt (fde.at + 4) (little_bytes 4 (fde.at + 4 - cie.at)) bytes

-- the unwind records of a link: those of the plan, no other and each once, as they stand in `.eh_frame`, which has room for them and for a Length
-- of 0 after them; and the table of their functions
pub record HasUnwindRecords (files : List File) (b : Bindings) (leaders : List (Option ℕ)) (laid : LaidOut) (lists : List RecordList) (plan : PlanView) (frame header : List ℕ) : Type 0 where
  pub planned : IsPlanned files b laid.merging.merged lists leaders plan
  pub len : length frame ≡ plan.frame_len
  pub written : (k : ℕ) → k < length plan.fdes → IsFdeWritten files b leaders laid lists plan laid.bounds.frames frame k
  pub table : IsTable files b leaders laid lists (placed_fdes lists plan) laid.bounds.frame_header laid.bounds.frames header
