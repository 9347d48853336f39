-- Each FDE that is written stands whole in `.eh_frame`, and its CIE Pointer leads to its CIE.
use Rattle.std.proofs.Common.{◌≡◌, ℕ, zero, suc, ◌+◌, ◌-◌, ◌<◌, ◌≤◌, Bool, true, false, cond, List, [], ◌∷◌, ◌++◌, length, map, take, drop, flat_map, get_or, Option, Some, None, refl, sym, ap, ◌∙◌, subst, arith, append_assoc, inl, inr}
use Rattle.std.specs.Prelude.{find, slice_index, unwrap_or}
use Rattle.std.specs.List.{All, sum_by}
use Rattle.std.proofs.lemmas.Bool.{cases_Bool}
use Rattle.std.proofs.lemmas.List.{drop-drop, drop-take, drop_at, get_or-map, length-append, length-take, length-take-le, take-append-le, take-take, take_at}
use Rattle.std.proofs.lemmas.List.Elements.{All-head, All-tail}
use Rattle.std.proofs.lemmas.List.Sums.{sum_by-cons}
use Rattle.byteorder.specs.Endian.{little_bytes}
use Rattle.lk_base.specs.RelocKinds.{fills_field}
use Rattle.lk_tables.specs.declared.objects.Reloc.{Reloc}
use Rattle.lk_tables.specs.declared.records.FrameNo.{FrameNo}
use Rattle.lk_tables.specs.Binding.{Bindings}
use Rattle.lk_tables.specs.Files.{File}
use Rattle.lk_tables.specs.FramePlans.{PlanView}
use Rattle.lk_tables.specs.Frames.{AreListsWithin, RecordList, frame_no, no_record, nth, record_at}
use Rattle.lk_tables.specs.Records.{RecordView, has_width}
use Rattle.lk_tables.specs.Sites.{place_of}
use Rattle.link_sections.specs.LaidOut.{LaidOut}
use Rattle.eh_frame.specs.declared.placing.Placed.{Placed}
use Rattle.eh_frame.specs.Bytes.{IsKnown, cie_bytes, ended, fde_bytes, fdes_bytes, frame_bytes, placed_cies, placed_fdes, placed_from, put, relocated, with_pointer, no_place}
use Rattle.eh_frame.specs.FrameLaws.{ArePlain, HasPlain, IsFdeWritten, IsPlain, StandAt}
use Rattle.eh_frame.specs.Laws.{IsPlanned}
use Rattle.eh_frame.specs.Plan.{record_bytes, plan_of, record_by, size_of}
use Rattle.eh_frame.proofs.KnownRecords.{plan_cies_known, plan_fdes_known, plan_uses}
use Rattle.eh_frame.proofs.PlacedSteps.{length_placed}
use Rattle.eh_frame.proofs.PutSteps.{fills_some, put_length, put_none}
use Rattle.eh_frame.proofs.RecordBytes.{bytes_length, cie_length, cies_length, fde_length, pointed_length}

-- a part after others
part_here : (n at : ℕ) (before part rest : List ℕ) → length before ≡ at → length part ≡ n → take n (drop at (before ++ (part ++ rest))) ≡ part
part_here n at before part rest long wide = ap (take n) (drop_at before (part ++ rest) at long) ∙ take_at part rest n wide

-- what is known of the relocations of each record of a link
plain_nth : (rs : List RecordView) (k : ℕ) → All HasPlain rs → HasPlain (unwrap_or (get_or (map (λ (r : RecordView). Some r) rs) k None) no_record)
plain_nth [] k all = λ i d lt. absurd (omega (arith, lt))
plain_nth (r ∷ rs) zero all = All-head HasPlain r rs all
plain_nth (r ∷ rs) (suc k) all = plain_nth rs k (All-tail HasPlain r rs all)

plain_found : (lists : List RecordList) (test : RecordList → Bool) (at : ℕ) → ArePlain lists → HasPlain (unwrap_or (nth at (find test lists)) no_record)
plain_found [] test at all = λ i d lt. absurd (omega (arith, lt))
plain_found (l ∷ ls) test at all =
    by (test l) (plain_nth l.records at (All-head (λ (m : RecordList). All HasPlain m.records) l ls all)) (plain_found ls test at (All-tail (λ (m : RecordList). All HasPlain m.records) l ls all))
  where
    by : (t : Bool) → HasPlain (unwrap_or (nth at (Some l)) no_record) → HasPlain (unwrap_or (nth at (find test ls)) no_record) → HasPlain (unwrap_or (nth at (cond t (Some l) (find test ls))) no_record)
    by true here later = here
    by false here later = later

pub plain_record : (lists : List RecordList) (number : FrameNo) → ArePlain lists → HasPlain (record_by lists number)
unfolding record_at
plain_record lists number all = plain_found lists _ number.at all

module _ (files : List File) (b : Bindings) (leaders : List (Option ℕ)) (laid : LaidOut) where
  -- the first 8 bytes of a record stay
  put_keeps : (f from address : ℕ) (r : Reloc) (bytes : List ℕ) → 8 ≤ length bytes → (has_width r ≡ true → from + 8 ≤ r.offset) →
      take 8 (put files b leaders laid f from address r bytes) ≡ take 8 bytes
  unfolding put
  put_keeps f from address r bytes long clear =
      elim (cases_Bool (fills_field r.kind)) [
        | inl fills ↦
            let past = clear (fills_some r fills) in
            let at = r.offset - from in
            let eight : 8 ≤ at = omega (arith, past) in
            take-append-le 8 (take at bytes) _ (omega (arith, eight, long, length-take at bytes)) ∙ take-take 8 at bytes eight
        | inr none_filled ↦ ap (take 8) (put_none files b leaders laid f from address r bytes none_filled)
      ]

  relocated_keeps : (f from address : ℕ) (relocs : List Reloc) (bytes : List ℕ) → 8 ≤ length bytes → All (IsPlain from) relocs →
      take 8 (relocated files b leaders laid f from address relocs bytes) ≡ take 8 bytes
  relocated_keeps f from address [] bytes long clear = refl
  relocated_keeps f from address (r ∷ rs) bytes long clear =
      let same = put_length files b leaders laid f from address r bytes in
      relocated_keeps f from address rs (put files b leaders laid f from address r bytes) (omega (arith, long, same)) (All-tail (IsPlain from) r rs clear)
      ∙ put_keeps f from address r bytes long (All-head (IsPlain from) r rs clear).after

  module _ (lists : List RecordList) (start : ℕ) where
    -- the CIE Pointer of an FDE
    fde_pointer : (cie : ℕ) (p : Placed) → IsKnown files lists p.number → ArePlain lists →
        take 4 (drop 4 (fde_bytes files b leaders laid lists start cie p)) ≡ little_bytes 4 (p.at + 4 - cie)
    unfolding fde_bytes with_pointer
    fde_pointer cie p known clear =
        let r = record_by lists p.number in
        let raw = record_bytes files lists p.number in
        let distance = little_bytes 4 (p.at + 4 - cie) in
        let long = bytes_length files lists p.number known in
        let least = known.within.least in
        let pointed = with_pointer (p.at + 4 - cie) raw in
        let wide : 8 ≤ length raw = omega (arith, long, least) in
        let same = pointed_length (p.at + 4 - cie) raw wide in
        let whole = relocated files b leaders laid (place_of files p.number.section).file r.from (start + p.at) r.relocs pointed in
        let kept : take 8 whole ≡ take 8 pointed =
        relocated_keeps (place_of files p.number.section).file r.from (start + p.at) r.relocs pointed (omega (arith, wide, same)) (plain_record lists p.number clear) in
        let four : length distance ≡ 4 = refl in
        sym (drop-take 4 4 whole) ∙ ap (drop 4) kept ∙ drop-take 4 4 pointed
        ∙ part_here 4 4 (take 4 raw) distance (drop 8 raw) (length-take-le 4 raw (omega (arith, wide))) four

    -- records one after the other, each whole
    cies_stand : (at : ℕ) (numbers : List FrameNo) (k : ℕ) (before rest : List ℕ) → length before ≡ at → All (IsKnown files lists) numbers → k < length numbers →
        StandAt (get_or (placed_from lists at numbers) k no_place).at (cie_bytes files b leaders laid lists start (get_or (placed_from lists at numbers) k no_place))
        (before ++ (flat_map (cie_bytes files b leaders laid lists start) (placed_from lists at numbers) ++ rest))
    cies_stand at [] k before rest long all lt = absurd (omega (arith, lt))
    cies_stand at (n ∷ ns) zero before rest long all lt =
        let g = cie_bytes files b leaders laid lists start in
        let p : Placed = record { number = n; at = at } in
        let later = flat_map g (placed_from lists (at + size_of lists n) ns) in
        ap (λ l. take (length (g p)) (drop at (before ++ l))) (append_assoc (g p) later rest) ∙ part_here (length (g p)) at before (g p) (later ++ rest) long refl
    cies_stand at (n ∷ ns) (suc k) before rest long all lt =
        let g = cie_bytes files b leaders laid lists start in
        let p : Placed = record { number = n; at = at } in
        let own = cie_length files b leaders laid lists start p (All-head (IsKnown files lists) n ns all) in
        let later = flat_map g (placed_from lists (at + size_of lists n) ns) in
        let q = get_or (placed_from lists (at + size_of lists n) ns) k no_place in
        ap (λ l. take (length (g q)) (drop q.at (before ++ l))) (append_assoc (g p) later rest)
        ∙ ap (λ l. take (length (g q)) (drop q.at l)) (sym (append_assoc before (g p) (later ++ rest)))
        ∙ cies_stand (at + size_of lists n) ns k (before ++ g p) rest (omega (arith, long, own, length-append before (g p))) (All-tail (IsKnown files lists) n ns all) (omega (arith, lt))

    -- where the CIE of the k-th FDE stands
    abbrev offset_for : List Placed → List ℕ → ℕ → ℕ
    offset_for cies uses k = slice_index (map (λ (c : Placed). c.at) cies) (slice_index uses k)

    fdes_stand : (cies : List Placed) (at : ℕ) (numbers : List FrameNo) (uses : List ℕ) (k : ℕ) (before rest : List ℕ) → length before ≡ at → All (IsKnown files lists) numbers →
        length uses ≡ length numbers → k < length numbers →
        StandAt (get_or (placed_from lists at numbers) k no_place).at (fde_bytes files b leaders laid lists start (offset_for cies uses k) (get_or (placed_from lists at numbers) k no_place))
        (before ++ (fdes_bytes files b leaders laid lists start cies (placed_from lists at numbers) uses ++ rest))
    fdes_stand cies at [] uses k before rest long all same lt = absurd (omega (arith, lt))
    fdes_stand cies at (n ∷ ns) [] k before rest long all same lt = absurd (omega (arith, same))
    fdes_stand cies at (n ∷ ns) (u ∷ us) zero before rest long all same lt =
        let p : Placed = record { number = n; at = at } in
        let part = fde_bytes files b leaders laid lists start (slice_index (map (λ (c : Placed). c.at) cies) u) p in
        let later = fdes_bytes files b leaders laid lists start cies (placed_from lists (at + size_of lists n) ns) us in
        ap (λ l. take (length part) (drop at (before ++ l))) (append_assoc part later rest) ∙ part_here (length part) at before part (later ++ rest) long refl
    fdes_stand cies at (n ∷ ns) (u ∷ us) (suc k) before rest long all same lt =
        let p : Placed = record { number = n; at = at } in
        let cie = slice_index (map (λ (c : Placed). c.at) cies) u in
        let part = fde_bytes files b leaders laid lists start cie p in
        let own = fde_length files b leaders laid lists start cie p (All-head (IsKnown files lists) n ns all) in
        let later = fdes_bytes files b leaders laid lists start cies (placed_from lists (at + size_of lists n) ns) us in
        let q = get_or (placed_from lists (at + size_of lists n) ns) k no_place in
        let other = fde_bytes files b leaders laid lists start (offset_for cies us k) q in
        ap (λ l. take (length other) (drop q.at (before ++ l))) (append_assoc part later rest)
        ∙ ap (λ l. take (length other) (drop q.at l)) (sym (append_assoc before part (later ++ rest)))
        ∙ fdes_stand cies (at + size_of lists n) ns us k (before ++ part) rest (omega (arith, long, own, length-append before part)) (All-tail (IsKnown files lists) n ns all)
        (omega (arith, same)) (omega (arith, lt))

-- where records stand
placed_number : (lists : List RecordList) (at : ℕ) (numbers : List FrameNo) (k : ℕ) → (get_or (placed_from lists at numbers) k no_place).number ≡ get_or numbers k (frame_no 0 0)
placed_number lists at [] k = refl
placed_number lists at (n ∷ ns) zero = refl
placed_number lists at (n ∷ ns) (suc k) = placed_number lists (at + size_of lists n) ns k

placed_low : (lists : List RecordList) (at : ℕ) (numbers : List FrameNo) (k : ℕ) → k < length numbers → at ≤ (get_or (placed_from lists at numbers) k no_place).at
placed_low lists at [] k lt = absurd (omega (arith, lt))
placed_low lists at (n ∷ ns) zero lt = omega arith
placed_low lists at (n ∷ ns) (suc k) lt = omega (arith, placed_low lists (at + size_of lists n) ns k (omega (arith, lt)))

placed_high : (lists : List RecordList) (at : ℕ) (numbers : List FrameNo) (k : ℕ) → k < length numbers → (get_or (placed_from lists at numbers) k no_place).at < at + sum_by (size_of lists) numbers
placed_high lists at [] k lt = absurd (omega (arith, lt))
placed_high lists at (n ∷ ns) zero lt = omega (arith, sum_by-cons (size_of lists) n ns)
placed_high lists at (n ∷ ns) (suc k) lt = omega (arith, placed_high lists (at + size_of lists n) ns k (omega (arith, lt)), sum_by-cons (size_of lists) n ns)

-- a part of a part
inner : (at n m : ℕ) (part whole small : List ℕ) → StandAt at part whole → take m (drop n part) ≡ small → n + m ≤ length part → take m (drop (at + n) whole) ≡ small
inner at n m part whole small stands is fits =
    ap (take m) (sym (drop-drop n at whole))
    ∙ sym (drop-take n m (drop at whole)) ∙ ap (drop n) (sym (take-take (n + m) (length part) (drop at whole) fits) ∙ ap (take (n + m)) stands)
    ∙ drop-take n m part ∙ is

module _ (files : List File) (b : Bindings) (leaders : List (Option ℕ)) (laid : LaidOut) (lists : List RecordList) (start : ℕ) where
  ended_some : (fdes : List FrameNo) (bytes : List ℕ) → 0 < length fdes → ended fdes bytes ≡ bytes ++ (0 ∷ 0 ∷ 0 ∷ 0 ∷ [])
  ended_some [] bytes some = absurd (omega (arith, some))
  ended_some (fde ∷ fdes) bytes some = refl

  -- FDE k of a plan
  pub fde_written : (plan : PlanView) (k : ℕ) → All (IsKnown files lists) plan.cies → All (IsKnown files lists) plan.fdes → length plan.uses ≡ length plan.fdes → ArePlain lists →
      k < length plan.fdes → slice_index plan.uses k < length plan.cies →
      IsFdeWritten files b leaders laid lists plan start (frame_bytes files b leaders laid lists plan start) k
  unfolding frame_bytes placed_cies placed_fdes
  fde_written plan k cies fdes uses clear lt used =
      let sizes = sum_by (size_of lists) plan.cies in
      let first = placed_from lists 0 plan.cies in
      let second = placed_from lists sizes plan.fdes in
      let u = slice_index plan.uses k in
      let c = get_or first u no_place in
      let p = get_or second k no_place in
      let one = flat_map (cie_bytes files b leaders laid lists start) first in
      let two = fdes_bytes files b leaders laid lists start first second plan.uses in
      let end : List ℕ = 0 ∷ 0 ∷ 0 ∷ 0 ∷ [] in
      let whole = frame_bytes files b leaders laid lists plan start in
      let parts : whole ≡ one ++ (two ++ end) = ended_some plan.fdes (one ++ two) (omega (arith, lt)) ∙ append_assoc one two end in
      let wide = cies_length files b leaders laid lists start 0 plan.cies cies in
      let many = length_placed lists 0 plan.cies in
      let offset : offset_for files b leaders laid lists start first plan.uses k ≡ c.at =
      get_or-map (λ (q : Placed). q.at) first u no_place 0 (omega (arith, used, many)) in
      let known : IsKnown files lists p.number = subst (IsKnown files lists) (sym (placed_number lists sizes plan.fdes k)) (fdes k (frame_no 0 0) lt) in
      let fde = fde_bytes files b leaders laid lists start c.at p in
      let fde_stands : StandAt p.at fde whole =
      ap (λ l. take (length fde) (drop p.at l)) parts
      ∙ (let S : ℕ → Type 0 = λ o. StandAt p.at (fde_bytes files b leaders laid lists start o p) (one ++ (two ++ end)) in
      subst S offset (fdes_stand files b leaders laid lists start first sizes plan.fdes plan.uses k one end wide fdes uses lt)) in
      let long = fde_length files b leaders laid lists start c.at p known in
      let least = known.within.least in
      record {
        fde = p;
        cie = c;
        fde_is = refl;
        cie_is = refl;
        fde_number = placed_number lists sizes plan.fdes k;
        cie_number = placed_number lists 0 plan.cies u;
        before = omega (arith, placed_high lists 0 plan.cies u used, placed_low lists sizes plan.fdes k lt);
        fde_stands = fde_stands;
        cie_stands = ap (λ l. take (length (cie_bytes files b leaders laid lists start c)) (drop c.at l)) parts
            ∙ cies_stand files b leaders laid lists start 0 plan.cies u [] (two ++ end) refl cies used;
        pointer = inner p.at 4 4 fde whole (little_bytes 4 (p.at + 4 - c.at)) fde_stands (fde_pointer files b leaders laid lists start c.at p known clear) (omega (arith, long, least));
      }

  pub plan_written : (plan : PlanView) → AreListsWithin files lists → ArePlain lists → plan ≡ plan_of files b laid.merging.merged lists leaders →
      IsPlanned files b laid.merging.merged lists leaders plan →
      (k : ℕ) → k < length plan.fdes → IsFdeWritten files b leaders laid lists plan start (frame_bytes files b leaders laid lists plan start) k
  plan_written plan within clear is laws = λ k lt.
      fde_written plan k (plan_cies_known files lists b laid.merging.merged leaders plan within is) (plan_fdes_known files lists b laid.merging.merged leaders plan within is)
      (plan_uses files lists b laid.merging.merged leaders plan is) clear lt (laws.uses k lt).within
