-- What a plan of unwind records promises (LSB Core, "Exception Frames").
use Rattle.std.specs.Prelude.{◌≡◌, ℕ, ◌+◌, ◌^◌, ◌<◌, ◌≤◌, ◌==◌, ◌&&◌, ◌||◌, nat_lt, Bool, true, List, length, slice_index, slice_index_or, Option}
use Rattle.std.specs.List.{All, AllPairs, Contains}
use Rattle.lk_tables.specs.declared.records.FrameNo.{FrameNo}
use Rattle.lk_tables.specs.Binding.{Bindings}
use Rattle.lk_tables.specs.Files.{File}
use Rattle.lk_tables.specs.FramePlans.{PlanView}
use Rattle.lk_tables.specs.Frames.{RecordList, frame_no, frames_at}
use Rattle.link_sections.specs.PoolViews.{Merged}
use Rattle.eh_frame.specs.Plan.{cie_key, cie_no, is_in_place}

-- a record is an FDE for a function of a section whose own bytes are written
pub record IsInPlace (files : List File) (b : Bindings) (merged : List (Option Merged)) (lists : List RecordList) (leaders : List (Option ℕ)) (fde : FrameNo) : Type 0 where
  pub section : ℕ
  pub in_place : is_in_place leaders merged section ≡ true
  pub listed : Contains (frames_at files b lists section) fde

-- how many bytes it has at most. The records of a section meet nowhere, so that those of a link have no more than 2^28 sections of less than
-- 2^31 bytes; its CIEs have no more, and as many FDEs of at least 8 bytes stand in the table
pub record IsSmall (plan : PlanView) : Type 0 where
  pub header : plan.header_len ≤ 2 ^ 59 + 12
  pub frame : plan.frame_len ≤ 2 ^ 60 + 4

-- in order of file, section and offset
abbrev pub comes_before : FrameNo → FrameNo → Bool
comes_before first second = nat_lt first.section second.section || (first.section == second.section && nat_lt first.at second.at)

-- an FDE that is written has the number of a CIE that is written, which has the same bytes as its own and stands for the same
pub record HasItsCie (files : List File) (b : Bindings) (merged : List (Option Merged)) (lists : List RecordList) (plan : PlanView) (k : ℕ) : Type 0 where
  pub within : slice_index plan.uses k < length plan.cies
  pub same : cie_key files b merged lists (slice_index_or plan.cies (slice_index plan.uses k) (frame_no 0 0))
      ≡ cie_key files b merged lists (cie_no lists (slice_index_or plan.fdes k (frame_no 0 0)))

-- a CIE that is written is the one that the first FDE names which has its number, and all FDEs before that one have lesser numbers: CIEs stand in order
-- of their first use
pub record IsFirstUse (lists : List RecordList) (plan : PlanView) (j : ℕ) : Type 0 where
  pub fde : ℕ
  pub among : fde < length plan.fdes
  pub is : slice_index_or plan.cies j (frame_no 0 0) ≡ cie_no lists (slice_index_or plan.fdes fde (frame_no 0 0))
  pub own : slice_index plan.uses fde ≡ j
  pub before : (k : ℕ) → k < fde → slice_index plan.uses k < j

-- each FDE of a section whose own bytes are written is, and no other; they stand in order, so each is written once; each has a CIE equal to
-- its own; no two of the CIEs are equal; and each is the first of those that say the same
pub record IsPlanned (files : List File) (b : Bindings) (merged : List (Option Merged)) (lists : List RecordList) (leaders : List (Option ℕ)) (plan : PlanView) : Type 0 where
  pub each : (fde : FrameNo) → IsInPlace files b merged lists leaders fde → Contains plan.fdes fde
  pub others : All (IsInPlace files b merged lists leaders) plan.fdes
  pub order : AllPairs (λ first second. comes_before first second ≡ true) plan.fdes
  pub uses : (k : ℕ) → k < length plan.fdes → HasItsCie files b merged lists plan k
  pub apart : AllPairs (λ first second. cie_key files b merged lists first ≡ cie_key files b merged lists second → ⊥) plan.cies
  pub firsts : (j : ℕ) → j < length plan.cies → IsFirstUse lists plan j
