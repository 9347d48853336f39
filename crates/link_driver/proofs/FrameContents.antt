-- What a link writes of unwind records, as its plan and its layout say.
use Rattle.std.proofs.Common.{◌≡◌, ℕ, ◌-◌, Bool, true, false, List, [], ◌∷◌, Option, length, refl, sym, ap, ◌∙◌, subst, arith, nat_lt}
use Rattle.std.proofs.lemmas.Bool.{ltb-false}
use Rattle.elf_out.specs.Executable.{FrameContents}
use Rattle.elf_out.specs.Standing.{FitFrames}
use Rattle.elf_out.specs.TablesView.{frame_contents}
use Rattle.layout.specs.Layout.{FrameSizes}
use Rattle.layout.specs.Spots.{HasFrames}
use Rattle.link_sections.specs.declared.layouts.Bounds.{Bounds}
use Rattle.link_sections.specs.LaidOut.{LaidOut}
use Rattle.link_sections.specs.PoolViews.{Merged}
use Rattle.lk_tables.specs.declared.frames.FrameBytes.{FrameBytes}
use Rattle.lk_tables.specs.declared.records.FrameNo.{FrameNo}
use Rattle.lk_tables.specs.Binding.{Bindings}
use Rattle.lk_tables.specs.Files.{File}
use Rattle.lk_tables.specs.FramePlans.{PlanView}
use Rattle.lk_tables.specs.Frames.{RecordList, all_lists}
use Rattle.eh_frame.specs.Bytes.{frame_bytes}
use Rattle.eh_frame.specs.Header.{header_bytes}
use Rattle.eh_frame.specs.Plan.{frame_len_of, header_len_of, plan_of}
use Rattle.link_driver.specs.Values.{contents_with}

-- what is written is what the plan says
pub contents_are : (files : List File) (b : Bindings) (leaders : List (Option ℕ)) (laid : LaidOut) (plan : PlanView) (lists : List RecordList) (bytes : FrameBytes) →
    lists ≡ all_lists files → bytes.frame.items ≡ frame_bytes files b leaders laid lists plan laid.bounds.frames →
    bytes.header.items ≡ header_bytes files b leaders laid lists plan laid.bounds.frame_header laid.bounds.frames →
    frame_contents bytes ≡ contents_with files b leaders laid plan
unfolding contents_with
contents_are files b leaders laid plan lists bytes are frame header =
    let make : List ℕ → List ℕ → FrameContents = λ h f. record { header = h; frame = f } in
    ap (λ h. make h bytes.frame.items) header
    ∙ ap (make (header_bytes files b leaders laid lists plan laid.bounds.frame_header laid.bounds.frames)) frame
    ∙ ap (λ ls. make (header_bytes files b leaders laid ls plan laid.bounds.frame_header laid.bounds.frames) (frame_bytes files b leaders laid ls plan laid.bounds.frames)) are

-- without an FDE neither section has a byte
no_bytes : (lists : List RecordList) (fdes cies : List FrameNo) → header_len_of fdes ≡ 0 → frame_len_of lists fdes cies ≡ 0
no_bytes lists [] cies none = refl
no_bytes lists (fde ∷ fdes) cies none = absurd (omega (arith, none))

pub planned_none : (files : List File) (b : Bindings) (merged : List (Option Merged)) (lists : List RecordList) (leaders : List (Option ℕ)) (plan : PlanView) →
    plan ≡ plan_of files b merged lists leaders → plan.header_len ≡ 0 → plan.frame_len ≡ 0
unfolding plan_of
planned_none files b merged lists leaders plan is none =
    let P : PlanView → Type 0 = λ p. p.header_len ≡ 0 → p.frame_len ≡ 0 in
    subst P (sym is) (no_bytes lists _ _) none

-- so they fit where the layout has room for them
pub fits_so : (sizes : FrameSizes) (bounds : Bounds) (bytes : FrameContents) → HasFrames sizes bounds → (sizes.header ≡ 0 → sizes.frame ≡ 0) →
    length bytes.header ≡ sizes.header → length bytes.frame ≡ sizes.frame → FitFrames bounds bytes
fits_so sizes bounds bytes has none header frame = by bounds.has_frames refl
  where
    by : (t : Bool) → bounds.has_frames ≡ t → FitFrames bounds bytes
    by true is = record { header = omega (arith, header, has.header); frame = omega (arith, frame, has.frame is) }
    by false is =
        let off : nat_lt 0 sizes.header ≡ false = sym has.has ∙ is in
        let empty : sizes.header ≡ 0 = omega (arith, ltb-false 0 sizes.header off) in
        record { header = omega (arith, header, has.header); frame = omega (arith, frame, has.none is, none empty) }
