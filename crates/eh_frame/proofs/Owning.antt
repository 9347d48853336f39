-- The lists of FDEs by section, from the records one after another.
use Rattle.std.proofs.Common.{◌≡◌, ℕ, ◌+◌, ◌^◌, ◌<◌, ◌≤◌, Bool, true, false, cond, List, [], ◌∷◌, ◌++◌, length, map, get_or, set, drop, replicate, flat_map, Option, Some, None, refl, sym, ap, ◌∙◌, subst, arith, append-nil, append_assoc, inl, inr}
use Rattle.std.specs.Global.{Vec}
use Rattle.std.specs.List.{All, filter, range_with_len}
use Rattle.std.proofs.lemmas.Bool.{cases_eq, eq-eqb, ne_eqb}
use Rattle.std.proofs.lemmas.List.{at_drop_all, at_drop_more, get_or-map, get_or-replicate, length-map, length-replicate, length-set, get_or-set_same, get_or-set_other, map-set, set_past}
use Rattle.std.proofs.lemmas.List.FromFn.{fill_by_all}
use Rattle.lk_base.proofs.Loops.{range_more}
use Rattle.lk_tables.specs.declared.records.FrameNo.{FrameNo}
use Rattle.lk_tables.specs.declared.records.Record.{Record}
use Rattle.lk_tables.specs.Binding.{Bindings}
use Rattle.lk_tables.specs.Files.{File, section_total}
use Rattle.lk_tables.specs.Frames.{RecordList, all_frames, frame_no, frames_at, frames_where, is_number, list_view, list_views, no_record, owner_at, owner_in}
use Rattle.lk_tables.specs.RecordViews.{record_view, record_views}
use Rattle.lk_tables.specs.Sites.{place_of}
use Rattle.lk_tables.specs.Targets.{is_gone}
use Rattle.eh_frame.specs.Owners.{lists_after, owners_in, with_frame, with_records}

abbrev pub one_if : Bool → FrameNo → List FrameNo
one_if test frame = cond test (frame ∷ []) []

-- one FDE more, in the list of each section
pub frame_more : (o : Option ℕ) (frame : FrameNo) (ls : List (List FrameNo)) (a : ℕ) → a < length ls →
    get_or (with_frame o frame ls) a [] ≡ get_or ls a [] ++ one_if (is_number o a) frame
frame_more None frame ls a lt = sym (append-nil (get_or ls a []))
frame_more (Some n) frame ls a lt =
    elim (cases_eq n a) [
      | inl same ↦
          let at : get_or (set ls n (get_or ls n [] ++ (frame ∷ []))) n [] ≡ get_or ls n [] ++ (frame ∷ []) =
          get_or-set_same ls n (get_or ls n [] ++ (frame ∷ [])) [] (omega (arith, lt, same)) in
          subst (λ (k : ℕ). get_or (set ls n (get_or ls n [] ++ (frame ∷ []))) k [] ≡ get_or ls k [] ++ (frame ∷ [])) same at
          ∙ ap (λ t. get_or ls a [] ++ one_if t frame) (sym (eq-eqb n a same))
      | inr other ↦
          get_or-set_other ls n a (get_or ls n [] ++ (frame ∷ [])) [] (λ e. other (sym e))
          ∙ sym (append-nil (get_or ls a [])) ∙ ap (λ t. get_or ls a [] ++ one_if t frame) (sym (ne_eqb n a other))
    ]

-- an FDE is pushed to a list that is held
pub pushed : (old : List (Vec FrameNo)) (a : ℕ) (frame : FrameNo) (v d : Vec FrameNo) → a < length old → v.items ≡ (get_or old a d).items ++ frame ∷ [] →
    map (λ (list : Vec FrameNo). list.items) (set old a v) ≡ with_frame (Some a) frame (map (λ (list : Vec FrameNo). list.items) old)
pushed old a frame v d lt is =
    let items : Vec FrameNo → List FrameNo = λ list. list.items in
    map-set items old a v ∙ ap (set (map items old) a) (is ∙ ap (λ l. l ++ frame ∷ []) (sym (get_or-map items old a d [] lt)))

pub past : (ls : List (List FrameNo)) (a : ℕ) (frame : FrameNo) → length ls ≤ a → ls ≡ with_frame (Some a) frame ls
past ls a frame le = sym (set_past ls a (get_or ls a [] ++ (frame ∷ [])) le)

pub length_frame : (o : Option ℕ) (frame : FrameNo) (ls : List (List FrameNo)) → length (with_frame o frame ls) ≡ length ls
length_frame None frame ls = refl
length_frame (Some n) frame ls = length-set ls n (get_or ls n [] ++ (frame ∷ []))

cons_if : (test : Bool) (n at : ℕ) (ats : List ℕ) → one_if test (frame_no n at) ++ map (frame_no n) ats ≡ map (frame_no n) (cond test (at ∷ ats) ats)
cons_if true n at ats = refl
cons_if false n at ats = refl

module _ (files : List File) (b : Bindings) where
  pub length_records : (l : RecordList) (ats : List ℕ) (ls : List (List FrameNo)) → length (with_records files b l ats ls) ≡ length ls
  length_records l [] ls = refl
  length_records l (at ∷ ats) ls =
      length_records l ats (with_frame (owner_at files b l at) (frame_no l.section at) ls) ∙ length_frame (owner_at files b l at) (frame_no l.section at) ls

  -- the records of these numbers
  pub records_more : (l : RecordList) (ats : List ℕ) (ls : List (List FrameNo)) (a : ℕ) → a < length ls →
      get_or (with_records files b l ats ls) a [] ≡ get_or ls a [] ++ map (frame_no l.section) (filter (λ at. is_number (owner_at files b l at) a) ats)
  records_more l [] ls a lt = sym (append-nil (get_or ls a []))
  records_more l (at ∷ ats) ls a lt =
      let o = owner_at files b l at in
      let next = with_frame o (frame_no l.section at) ls in
      let rest = filter (λ k. is_number (owner_at files b l k) a) ats in
      records_more l ats next a (omega (arith, lt, length_frame o (frame_no l.section at) ls))
      ∙ ap (λ x. x ++ map (frame_no l.section) rest) (frame_more o (frame_no l.section at) ls a lt)
      ∙ append_assoc (get_or ls a []) (one_if (is_number o a) (frame_no l.section at)) (map (frame_no l.section) rest)
      ∙ ap (λ x. get_or ls a [] ++ x) (cons_if (is_number o a) l.section at rest)

  -- one record more
  pub records_step : (l : RecordList) (ats : List ℕ) (at : ℕ) (ls : List (List FrameNo)) →
      with_records files b l (ats ++ (at ∷ [])) ls ≡ with_frame (owner_at files b l at) (frame_no l.section at) (with_records files b l ats ls)
  records_step l [] at ls = refl
  records_step l (k ∷ ks) at ls = records_step l ks at (with_frame (owner_at files b l k) (frame_no l.section k) ls)

  pub range_step : (l : RecordList) (at : ℕ) (ls : List (List FrameNo)) →
      with_records files b l (range_with_len 0 (at + 1)) ls ≡ with_frame (owner_at files b l at) (frame_no l.section at) (with_records files b l (range_with_len 0 at) ls)
  range_step l at ls = ap (λ ats. with_records files b l ats ls) (range_more at) ∙ records_step l (range_with_len 0 at) at ls

  gone_or : (gone : Bool) (l : RecordList) (ls : List (List FrameNo)) (a : ℕ) → a < length ls →
      get_or (cond gone ls (with_records files b l (range_with_len 0 (length l.records)) ls)) a []
      ≡ get_or ls a [] ++ cond gone [] (map (frame_no l.section) (filter (λ at. is_number (owner_at files b l at) a) (range_with_len 0 (length l.records))))
  gone_or true l ls a lt = sym (append-nil (get_or ls a []))
  gone_or false l ls a lt = records_more l (range_with_len 0 (length l.records)) ls a lt

  -- one section's records more
  pub list_more : (l : RecordList) (ls : List (List FrameNo)) (a : ℕ) → a < length ls →
      get_or (lists_after files b l ls) a [] ≡ get_or ls a [] ++ frames_where files b (λ owner. is_number owner a) l
  unfolding lists_after frames_where
  list_more l ls a lt = gone_or (is_gone b l.section) l ls a lt

  length_gone : (gone : Bool) (l : RecordList) (ls : List (List FrameNo)) →
      length (cond gone ls (with_records files b l (range_with_len 0 (length l.records)) ls)) ≡ length ls
  length_gone true l ls = refl
  length_gone false l ls = length_records l (range_with_len 0 (length l.records)) ls

  length_list : (l : RecordList) (ls : List (List FrameNo)) → length (lists_after files b l ls) ≡ length ls
  unfolding lists_after
  length_list l ls = length_gone (is_gone b l.section) l ls

  -- those of several sections
  abbrev pub all_after : List RecordList → List (List FrameNo) → List (List FrameNo)
  all_after [] ls = ls
  all_after (l ∷ rest) ls = all_after rest (lists_after files b l ls)

  length_all : (lists : List RecordList) (ls : List (List FrameNo)) → length (all_after lists ls) ≡ length ls
  length_all [] ls = refl
  length_all (l ∷ rest) ls = length_all rest (lists_after files b l ls) ∙ length_list l ls

  all_more : (lists : List RecordList) (ls : List (List FrameNo)) (a : ℕ) → a < length ls →
      get_or (all_after lists ls) a [] ≡ get_or ls a [] ++ flat_map (frames_where files b (λ owner. is_number owner a)) lists
  all_more [] ls a lt = sym (append-nil (get_or ls a []))
  all_more (l ∷ rest) ls a lt =
      let own = frames_where files b (λ owner. is_number owner a) in
      all_more rest (lists_after files b l ls) a (omega (arith, lt, length_list l ls))
      ∙ ap (λ x. x ++ flat_map own rest) (list_more l ls a lt)
      ∙ append_assoc (get_or ls a []) (own l) (flat_map own rest)

  all_are : (lists : List RecordList) → all_after lists (replicate (section_total files) []) ≡ all_frames files b lists
  unfolding all_frames frames_at
  all_are lists =
      let n = section_total files in
      let start : List (List FrameNo) = replicate n [] in
      let long : length start ≡ n = length-replicate n [] in
      fill_by_all (frames_at files b lists) (all_after lists start) n [] (length_all lists start ∙ long)
      (λ k lt. all_more lists start k (omega (arith, lt, long))
      ∙ ap (λ x. x ++ flat_map (frames_where files b (λ owner. is_number owner k)) lists) (get_or-replicate n k [] [] lt))

  -- a section that was discarded
  pub gone_list : (l : RecordList) (ls : List (List FrameNo)) → is_gone b l.section ≡ true → ls ≡ lists_after files b l ls
  unfolding lists_after
  gone_list l ls gone = sym (ap (λ g. cond g ls (with_records files b l (range_with_len 0 (length l.records)) ls)) gone)

  -- what was found for the lists, and for the records of one
  pub owners_read : (slice : List (ℕ × Vec Record)) (all : List (List (Option ℕ))) (n : ℕ) (x d : ℕ × Vec Record) (own : List (Option ℕ)) → n < length slice → x ≡ get_or slice n d →
      all ≡ map (owners_in files b) (list_views slice) → own ≡ get_or all n [] → own ≡ owners_in files b (list_view x)
  owners_read slice all n x d own lt is all_is own_is =
      own_is ∙ ap (λ l. get_or l n []) all_is
      ∙ get_or-map (owners_in files b) (list_views slice) n (list_view d) [] (omega (arith, lt, length-map slice list_view))
      ∙ ap (owners_in files b) (get_or-map list_view slice n d (list_view d) lt ∙ ap list_view (sym is))

  pub owner_read : (l : RecordList) (owners : List (Option ℕ)) (at : ℕ) (o : Option ℕ) → at < length l.records → owners ≡ owners_in files b l → o ≡ get_or owners at None →
      o ≡ owner_at files b l at
  owner_read l owners at o lt are is =
      is ∙ ap (λ os. get_or os at None) are ∙ get_or-map (owner_in files b (place_of files l.section).file) l.records at no_record None lt

  pub whole_list : (list : ℕ × Vec Record) (slice : List Record) (at : ℕ) (start now : List (List FrameNo)) → slice ≡ list.1.items → at ≤ length slice → length slice ≤ at →
      is_gone b list.0 ≡ false → now ≡ with_records files b (list_view list) (range_with_len 0 at) start → now ≡ lists_after files b (list_view list) start
  unfolding lists_after
  whole_list list slice at start now same le ge here is =
      let n : at ≡ length (list_view list).records = omega (arith, le, ge, ap length same, length-map list.1.items record_view) in
      is ∙ ap (λ k. with_records files b (list_view list) (range_with_len 0 k) start) n
      ∙ sym (ap (λ g. cond g start (with_records files b (list_view list) (range_with_len 0 (length (list_view list).records)) start)) here)

  -- one list more
  pub step_lists : (slice : List (ℕ × Vec Record)) (n : ℕ) (x d : ℕ × Vec Record) (old new whole : List (List FrameNo)) → n < length slice → x ≡ get_or slice n d →
      new ≡ lists_after files b (list_view x) old → all_after (drop n (list_views slice)) old ≡ whole → all_after (drop (n + 1) (list_views slice)) new ≡ whole
  step_lists slice n x d old new whole lt is made so_far =
      let views = list_views slice in
      let v = list_view d in
      let at : get_or views n v ≡ list_view x = get_or-map list_view slice n d v lt ∙ ap list_view (sym is) in
      let more : all_after (drop n views) old ≡ all_after (get_or views n v ∷ drop (n + 1) views) old =
      at_drop_more (λ ls. all_after ls old) views n v (omega (arith, lt, length-map slice list_view)) in
      ap (all_after (drop (n + 1) views)) (made ∙ ap (λ l. lists_after files b l old) (sym at)) ∙ sym more ∙ so_far

  -- all of them
  pub all_lists_are : (held slice : List (ℕ × Vec Record)) (n : ℕ) (now : List (List FrameNo)) → slice ≡ held → length slice ≤ n →
      all_after (drop n (list_views slice)) now ≡ all_after (list_views slice) (replicate (section_total files) []) → now ≡ all_frames files b (list_views held)
  all_lists_are held slice n now same ge is =
      let views = list_views slice in
      sym (at_drop_all (λ ls. all_after ls now) views n (omega (arith, ge, length-map slice list_view))) ∙ is ∙ all_are views
      ∙ ap (λ (l : List (ℕ × Vec Record)). all_frames files b (list_views l)) same

-- what holds of each list
pub list_holds : (P : RecordList → Type 0) (held slice : List (ℕ × Vec Record)) (n : ℕ) (x d : ℕ × Vec Record) → slice ≡ held → n < length slice → All P (list_views held) →
    x ≡ get_or slice n d → P (list_view x)
list_holds P held slice n x d same lt all is =
    let v = list_view d in
    let low : n < length (list_views held) = omega (arith, lt, ap length same, length-map held list_view) in
    let at : get_or (list_views held) n v ≡ list_view x =
    sym (ap (λ (l : List (ℕ × Vec Record)). get_or (list_views l) n v) same) ∙ get_or-map list_view slice n d v lt ∙ ap list_view (sym is) in
    subst P at (all n v low)

pub few_records : (held slice : List (ℕ × Vec Record)) (n : ℕ) (x d : ℕ × Vec Record) → slice ≡ held → n < length slice →
    All (λ (l : RecordList). length l.records < 2 ^ 32) (list_views held) → x ≡ get_or slice n d → length x.1.items < 2 ^ 32
few_records held slice n x d same lt all is =
    let few = list_holds (λ (l : RecordList). length l.records < 2 ^ 32) held slice n x d same lt all is in
    omega (arith, few, length-map x.1.items record_view)

pub each_holds : (P : RecordList → Type 0) (lists : List (ℕ × Vec Record)) → All P (list_views lists) → All (λ (list : ℕ × Vec Record). P (list_view list)) lists
each_holds P lists all = λ k d lt. list_holds P lists lists k (get_or lists k d) d refl lt all refl
