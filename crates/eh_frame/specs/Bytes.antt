-- What `.eh_frame` holds, and what is wrong with the values of its relocations (LSB Core, "Exception Frames"; RISC-V ELF psABI, "Relocations").
use Rattle.std.specs.Prelude.{◌≡◌, ℕ, ◌+◌, ◌-◌, ◌*◌, ◌^◌, ◌<◌, ◌==◌, ℤ, pos, ◌+ℤ◌, ◌-ℤ◌, Bool, true, Option, Some, None, is_some, if◌then◌else◌, List, [], ◌∷◌, ◌++◌, length, map, take, drop, flat_map, slice_index}
use Rattle.std.specs.List.{filter, range_with_len, sum_by}
use Rattle.byteorder.specs.Endian.{little_bytes}
use Rattle.lk_base.specs.Order.{stable_order}
use Rattle.lk_base.specs.RelocKinds.{Kind, fills_field, kind_of}
use Rattle.lk_base.specs.declared.defects.Defect.{Defect}
use Rattle.lk_base.specs.declared.kinds.DefectKind.{DefectKind}
use Rattle.lk_base.specs.declared.kinds.TheConstants as kinds
use Rattle.lk_base.specs.declared.relocations.Calculation.{Calculation}
use Rattle.lk_base.specs.declared.relocations.Calculation.TheVariants.{Address, Distance, Increase, Decrease}
use Rattle.lk_tables.specs.declared.objects.Reloc.{Reloc}
use Rattle.lk_tables.specs.declared.records.FrameNo.{FrameNo}
use Rattle.lk_tables.specs.declared.section_places.SectionPlace.{SectionPlace}
use Rattle.lk_tables.specs.Binding.{Bindings}
use Rattle.lk_tables.specs.Files.{File, section_total}
use Rattle.lk_tables.specs.FramePlans.{PlanView}
use Rattle.lk_tables.specs.Frames.{IsRecordWithin, RecordList, frame_no, record_at}
use Rattle.lk_tables.specs.Sites.{contents_at, place_of}
use Rattle.lk_tables.specs.Targets.{spot_of}
use Rattle.lk_tables.specs.Misfits.{value_defects}
use Rattle.link_sections.specs.declared.targets.Target.{Target}
use Rattle.link_sections.specs.Addresses.{target_address}
use Rattle.link_sections.specs.LaidOut.{LaidOut}
use Rattle.link_sections.specs.PieceTargets.{piece_target}
use Rattle.link_sections.specs.Sums.{addend_of}
use Rattle.rv_code.specs.Places.{patched, held_at}
use Rattle.eh_frame.specs.declared.placing.Placed.{Placed}
use Rattle.eh_frame.specs.Plan.{record_bytes, record_by, size_of}

-- the calculations of the kinds that records have, from S + A, P and V
abbrev pub computed : Calculation → (sum place held : ℤ) → Option ℤ
computed Address sum place held = Some sum
computed Distance sum place held = Some (sum -ℤ place)
computed Increase sum place held = Some (held +ℤ sum)
computed Decrease sum place held = Some (held -ℤ sum)
computed _ sum place held = None

-- the bytes of a place with a value in its field; without one as they were
abbrev pub filled : Kind → Option ℤ → (place : List ℕ) → List ℕ
filled kind None place = place
filled kind (Some v) place = patched kind.field v place

-- an FDE with the CIE Pointer, which is so many bytes back to its CIE
unfoldable pub with_pointer : (distance : ℕ) → List ℕ → List ℕ
with_pointer distance bytes = take 4 bytes ++ (little_bytes 4 distance ++ drop 8 bytes)

-- the bytes of records with a Length of 0 after them; nothing without an FDE
abbrev pub ended : (fdes : List FrameNo) → List ℕ → List ℕ
ended [] bytes = []
ended (fde ∷ fdes) bytes = bytes ++ (0 ∷ 0 ∷ 0 ∷ 0 ∷ [])

-- a record that was read without a flaw, of a section of the link
pub record IsKnown (files : List File) (lists : List RecordList) (number : FrameNo) : Type 0 where
  pub section : number.section < section_total files
  pub few : number.at < 2 ^ 31
  pub short : length (contents_at files number.section) < 2 ^ 31
  pub there : is_some (record_at lists number) ≡ true
  pub records : ℕ
  pub within : IsRecordWithin (length (contents_at files number.section)) records (record_by lists number)

module _ (files : List File) (b : Bindings) (leaders : List (Option ℕ)) (laid : LaidOut) where
  unfoldable pub reloc_target : (f : ℕ) → Reloc → Target
  reloc_target f r = piece_target laid.merging.merged (spot_of files b f r)

  -- S + A of relocation r of file f
  unfoldable pub sum_in : (f : ℕ) → Reloc → ℤ
  sum_in f r = pos (target_address files b leaders laid (reloc_target f r)) +ℤ addend_of (reloc_target f r) r

  -- its value at a place that holds a number
  unfoldable pub value_in : (f : ℕ) → Reloc → (place held : ℤ) → Option ℤ
  value_in f r place held = if fills_field r.kind then computed (kind_of r.kind).calculation (sum_in f r) place held else None

  -- it is done in a record of these bytes, that starts at an offset of its section, and at an address in the executable
  unfoldable pub put : (f from address : ℕ) → Reloc → List ℕ → List ℕ
  put f from address r bytes =
      let at = r.offset - from in
      let kind = kind_of r.kind in
      take at bytes
      ++ (filled kind (value_in f r (pos (address + at)) (held_at kind.width at bytes)) (take kind.width (drop at bytes))
      ++ drop (at + kind.width) bytes)

  -- all of them are, in order
  abbrev pub relocated : (f from address : ℕ) → List Reloc → List ℕ → List ℕ
  relocated f from address [] bytes = bytes
  relocated f from address (r ∷ rs) bytes = relocated f from address rs (put f from address r bytes)

  -- what is wrong with its value there; the kinds that add to what their place holds take every value
  unfoldable pub reloc_defects : SectionPlace → (from address : ℕ) → Reloc → List Defect
  reloc_defects place from address r =
      value_defects place r (kind_of r.kind).reach (value_in place.file r (pos (address + (r.offset - from))) (pos 0))

module _ (lists : List RecordList) where
  -- records one after the other from an offset on, each with its offset
  abbrev pub placed_from : (at : ℕ) → List FrameNo → List Placed
  placed_from at [] = []
  placed_from at (n ∷ ns) = record { number = n; at = at } ∷ placed_from (at + size_of lists n) ns

  unfoldable pub placed_cies : PlanView → List Placed
  placed_cies plan = placed_from 0 plan.cies

  unfoldable pub placed_fdes : PlanView → List Placed
  placed_fdes plan = placed_from (sum_by (size_of lists) plan.cies) plan.fdes

  abbrev pub all_placed : PlanView → List Placed
  all_placed plan = placed_cies plan ++ placed_fdes plan

-- what stands past the end of such a list
abbrev pub no_place : Placed
no_place = record { number = frame_no 0 0; at = 0 }

-- records in order of section and number, which is that of file, section and offset
abbrev pub order_of : Placed → ℕ
order_of p = p.number.section * 2 ^ 32 + p.number.at

unfoldable pub placed_order : List Placed → List Placed
placed_order placed = stable_order order_of placed

abbrev pub is_of : (section : ℕ) → Placed → Bool
is_of section p = p.number.section == section

module _ (files : List File) (b : Bindings) (leaders : List (Option ℕ)) (laid : LaidOut) (lists : List RecordList) where
  -- a record that stands at an address, with its relocations done
  abbrev pub record_in : FrameNo → (address : ℕ) → List ℕ → List ℕ
  record_in number address bytes =
      relocated files b leaders laid (place_of files number.section).file (record_by lists number).from address (record_by lists number).relocs bytes

  unfoldable pub cie_bytes : (start : ℕ) → Placed → List ℕ
  cie_bytes start p = record_in p.number (start + p.at) (record_bytes files lists p.number)

  unfoldable pub fde_bytes : (start cie : ℕ) → Placed → List ℕ
  fde_bytes start cie p = record_in p.number (start + p.at) (with_pointer (p.at + 4 - cie) (record_bytes files lists p.number))

  -- FDEs, each with the number of its CIE
  abbrev pub fdes_bytes : (start : ℕ) → (cies : List Placed) → List Placed → (uses : List ℕ) → List ℕ
  fdes_bytes start cies [] uses = []
  fdes_bytes start cies (p ∷ ps) [] = []
  fdes_bytes start cies (p ∷ ps) (n ∷ ns) =
      fde_bytes start (slice_index (map (λ (c : Placed). c.at) cies) n) p ++ fdes_bytes start cies ps ns

  -- what stands at `start`: the CIEs, the FDEs and a Length of 0
  unfoldable pub frame_bytes : PlanView → (start : ℕ) → List ℕ
  frame_bytes plan start = ended plan.fdes
      (flat_map (cie_bytes start) (placed_cies lists plan) ++ fdes_bytes start (placed_cies lists plan) (placed_fdes lists plan) plan.uses)

  -- what is wrong with the values of a record
  unfoldable pub placed_defects : (start : ℕ) → Placed → List Defect
  placed_defects start p =
      flat_map (reloc_defects files b leaders laid (place_of files p.number.section) (record_by lists p.number).from (start + p.at)) (record_by lists p.number).relocs

  -- of the records of a section that are written, in order
  unfoldable pub record_defects : PlanView → (start section : ℕ) → List Defect
  record_defects plan start section = flat_map (placed_defects start) (filter (is_of section) (placed_order (all_placed lists plan)))

  -- of all, in order of file, section and offset
  unfoldable pub frame_defects : PlanView → (start : ℕ) → List Defect
  frame_defects plan start = flat_map (record_defects plan start) (range_with_len 0 (section_total files))
