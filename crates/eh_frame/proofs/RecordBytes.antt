-- The bytes of records, one after the other, and how many there are.
use Rattle.std.proofs.Common.{◌≡◌, ℕ, ◌+◌, ◌-◌, ◌≤◌, List, [], ◌∷◌, ◌++◌, length, map, take, drop, slice_index, flat_map, refl, ap, ◌∙◌, arith, Option}
use Rattle.std.specs.List.{All, sum_by}
use Rattle.std.proofs.lemmas.List.{length-append, length-drop, length-take-le}
use Rattle.std.proofs.lemmas.List.Elements.{All-head, All-tail}
use Rattle.std.proofs.lemmas.List.Sums.{sum_by-cons}
use Rattle.byteorder.specs.Endian.{little_bytes}
use Rattle.lk_tables.specs.declared.records.FrameNo.{FrameNo}
use Rattle.lk_tables.specs.Binding.{Bindings}
use Rattle.lk_tables.specs.Files.{File}
use Rattle.lk_tables.specs.FramePlans.{PlanView}
use Rattle.lk_tables.specs.Frames.{RecordList}
use Rattle.lk_tables.specs.Records.{RecordView}
use Rattle.lk_tables.specs.Sites.{contents_at, place_of}
use Rattle.link_sections.specs.LaidOut.{LaidOut}
use Rattle.eh_frame.specs.declared.placing.Placed.{Placed}
use Rattle.eh_frame.specs.Bytes.{IsKnown, cie_bytes, ended, fde_bytes, fdes_bytes, frame_bytes, placed_cies, placed_fdes, placed_from, relocated, with_pointer}
use Rattle.eh_frame.specs.Plan.{record_bytes, frame_len_of, record_by, size_of}
use Rattle.eh_frame.proofs.PutSteps.{relocated_length}

-- what was added at the end, and changed there
pub pointed_length : (distance : ℕ) (bytes : List ℕ) → 8 ≤ length bytes → length (with_pointer distance bytes) ≡ length bytes
unfolding with_pointer
pointed_length distance bytes le =
    let four : length (little_bytes 4 distance) ≡ 4 = refl in
    let front = length-take-le 4 bytes (omega (arith, le)) in
    omega (arith, le, four, front, length-append (take 4 bytes) (little_bytes 4 distance ++ drop 8 bytes), length-append (little_bytes 4 distance) (drop 8 bytes), length-drop 8 bytes)

module _ (files : List File) (lists : List RecordList) where
  pub bytes_length : (number : FrameNo) → IsKnown files lists number → length (record_bytes files lists number) ≡ size_of lists number
  unfolding record_bytes
  bytes_length number known =
      let within = known.within.bytes in
      length-take-le (size_of lists number) (drop (record_by lists number).from (contents_at files number.section))
      (omega (arith, within, length-drop (record_by lists number).from (contents_at files number.section)))

module _ (files : List File) (b : Bindings) (leaders : List (Option ℕ)) (laid : LaidOut) (lists : List RecordList) (start : ℕ) where
  pub cie_length : (p : Placed) → IsKnown files lists p.number → length (cie_bytes files b leaders laid lists start p) ≡ size_of lists p.number
  unfolding cie_bytes
  cie_length p known =
      relocated_length files b leaders laid (place_of files p.number.section).file (record_by lists p.number).from (start + p.at) (record_by lists p.number).relocs
      (record_bytes files lists p.number)
      ∙ bytes_length files lists p.number known

  pub fde_length : (cie : ℕ) (p : Placed) → IsKnown files lists p.number → length (fde_bytes files b leaders laid lists start cie p) ≡ size_of lists p.number
  unfolding fde_bytes
  fde_length cie p known =
      let long = bytes_length files lists p.number known in
      let least = known.within.least in
      relocated_length files b leaders laid (place_of files p.number.section).file (record_by lists p.number).from (start + p.at) (record_by lists p.number).relocs
      (with_pointer (p.at + 4 - cie) (record_bytes files lists p.number))
      ∙ pointed_length (p.at + 4 - cie) (record_bytes files lists p.number) (omega (arith, long, least)) ∙ long

  pub cies_length : (at : ℕ) (numbers : List FrameNo) → All (IsKnown files lists) numbers →
      length (flat_map (cie_bytes files b leaders laid lists start) (placed_from lists at numbers)) ≡ sum_by (size_of lists) numbers
  cies_length at [] all = refl
  cies_length at (n ∷ ns) all =
      let p : Placed = record { number = n; at = at } in
      omega (
        arith,
        length-append (cie_bytes files b leaders laid lists start p) (flat_map (cie_bytes files b leaders laid lists start) (placed_from lists (at + size_of lists n) ns)),
        cie_length p (All-head (IsKnown files lists) n ns all),
        cies_length (at + size_of lists n) ns (All-tail (IsKnown files lists) n ns all),
        sum_by-cons (size_of lists) n ns,
      )

  fdes_length : (cies : List Placed) (at : ℕ) (numbers : List FrameNo) (uses : List ℕ) → All (IsKnown files lists) numbers → length uses ≡ length numbers →
      length (fdes_bytes files b leaders laid lists start cies (placed_from lists at numbers) uses) ≡ sum_by (size_of lists) numbers
  fdes_length cies at [] uses all same = refl
  fdes_length cies at (n ∷ ns) [] all same = absurd (omega (arith, same))
  fdes_length cies at (n ∷ ns) (u ∷ us) all same =
      let p : Placed = record { number = n; at = at } in
      let cie = slice_index (map (λ (c : Placed). c.at) cies) u in
      omega (
        arith,
        length-append (fde_bytes files b leaders laid lists start cie p) (fdes_bytes files b leaders laid lists start cies (placed_from lists (at + size_of lists n) ns) us),
        fde_length cie p (All-head (IsKnown files lists) n ns all),
        fdes_length cies (at + size_of lists n) ns us (All-tail (IsKnown files lists) n ns all) (omega (arith, same)),
        sum_by-cons (size_of lists) n ns,
      )

  ended_length : (fdes cies : List FrameNo) (bytes : List ℕ) → length bytes ≡ sum_by (size_of lists) cies + sum_by (size_of lists) fdes →
      length (ended fdes bytes) ≡ frame_len_of lists fdes cies
  ended_length [] cies bytes is = refl
  ended_length (fde ∷ fdes) cies bytes is = omega (arith, is, length-append bytes (0 ∷ 0 ∷ 0 ∷ 0 ∷ []))

  pub frame_length : (plan : PlanView) → All (IsKnown files lists) plan.cies → All (IsKnown files lists) plan.fdes → length plan.uses ≡ length plan.fdes →
      length (frame_bytes files b leaders laid lists plan start) ≡ frame_len_of lists plan.fdes plan.cies
  unfolding frame_bytes placed_cies placed_fdes
  frame_length plan cies fdes uses =
      let one = flat_map (cie_bytes files b leaders laid lists start) (placed_from lists 0 plan.cies) in
      let two = fdes_bytes files b leaders laid lists start (placed_from lists 0 plan.cies) (placed_from lists (sum_by (size_of lists) plan.cies) plan.fdes) plan.uses in
      ended_length plan.fdes plan.cies (one ++ two)
      (omega (arith, length-append one two, cies_length 0 plan.cies cies, fdes_length (placed_from lists 0 plan.cies) (sum_by (size_of lists) plan.cies) plan.fdes plan.uses fdes uses))

  -- a record by what the code holds of it
  pub cie_is : (p : Placed) (r : RecordView) (file : ℕ) → r ≡ record_by lists p.number → file ≡ (place_of files p.number.section).file →
      relocated files b leaders laid file r.from (start + p.at) r.relocs (take (4 + r.len) (drop r.from (contents_at files p.number.section)))
      ≡ cie_bytes files b leaders laid lists start p
  unfolding cie_bytes record_bytes
  cie_is p r file is file_is =
      ap (λ f. relocated files b leaders laid f r.from (start + p.at) r.relocs (take (4 + r.len) (drop r.from (contents_at files p.number.section)))) file_is
      ∙ ap (λ (q : RecordView). relocated files b leaders laid (place_of files p.number.section).file q.from (start + p.at) q.relocs (take (4 + q.len) (drop q.from (contents_at files p.number.section)))) is

  pub fde_is : (cie : ℕ) (p : Placed) (r : RecordView) (file : ℕ) → r ≡ record_by lists p.number → file ≡ (place_of files p.number.section).file →
      relocated files b leaders laid file r.from (start + p.at) r.relocs (with_pointer (p.at + 4 - cie) (take (4 + r.len) (drop r.from (contents_at files p.number.section))))
      ≡ fde_bytes files b leaders laid lists start cie p
  unfolding fde_bytes record_bytes
  fde_is cie p r file is file_is =
      ap (λ f. relocated files b leaders laid f r.from (start + p.at) r.relocs (with_pointer (p.at + 4 - cie) (take (4 + r.len) (drop r.from (contents_at files p.number.section))))) file_is
      ∙ ap (λ (q : RecordView). relocated files b leaders laid (place_of files p.number.section).file q.from (start + p.at) q.relocs (with_pointer (p.at + 4 - cie) (take (4 + q.len) (drop q.from (contents_at files p.number.section))))) is
