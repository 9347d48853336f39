-- The defects of unwind records are in order: those of a section stand in the order of its records, and no record is written twice.
use Rattle.std.proofs.Common.{◌≡◌, ℕ, zero, suc, ◌+◌, ◌-◌, ◌<◌, ◌≤◌, ◌⊎◌, ◌==◌, ◌&&◌, nat_lt, nat_le, Bool, true, false, Option, Some, None, List, [], ◌∷◌, ◌++◌, flat_map, length, map, get_or, refl, sym, ap, ◌∙◌, subst, inl, inr, ⊎_elim, arith, ℤ, pos}
use Rattle.std.specs.Prelude.{filter, find, is_some, slice_index_or, unwrap_or, if◌then◌else◌}
use Rattle.std.specs.List.{AllByRecursion, AllPairs, list_any, range_with_len}
use Rattle.std.proofs.lemmas.Bool.{and_parts, cases_lt, eqb-true, ltb-true, leb-true, or_cases}
use Rattle.std.proofs.lemmas.List.{get_or_past}
use Rattle.std.proofs.lemmas.List.FromFn.{get_or-map-range_with_len, length-map-range_with_len}
use Rattle.lk_base.specs.declared.defects.Defect.{Defect}
use Rattle.lk_base.specs.declared.defects.Misfit.{Misfit}
use Rattle.lk_base.specs.declared.defects.Misfit.TheVariants.{Odd, Range}
use Rattle.lk_base.specs.Order.{put_in, stable_order}
use Rattle.lk_base.specs.Reaches.{Reach, misfit_of}
use Rattle.lk_base.specs.RelocKinds.{kind_of}
use Rattle.lk_base.proofs.StableOrder.{rises_order}
use Rattle.lk_tables.specs.declared.objects.Reloc.{Reloc}
use Rattle.lk_tables.specs.declared.records.FrameNo.{FrameNo}
use Rattle.lk_tables.specs.declared.section_places.SectionPlace.{SectionPlace}
use Rattle.lk_tables.specs.Binding.{Bindings}
use Rattle.lk_tables.specs.Files.{File, file_at, relocs_at, section_at}
use Rattle.lk_tables.specs.FramePlans.{PlanView}
use Rattle.lk_tables.specs.Frames.{RecordList, all_lists, frame_no, frames_where, no_record, nth, owner_at, owner_in, record_at}
use Rattle.lk_tables.specs.Records.{RecordView, cie_before, cie_of, count, end_at, first_records, is_cie, is_pointed_to, start_of, record_of as record_in, records_of, relocs_in}
use Rattle.lk_tables.specs.Sections.{contents_of}
use Rattle.lk_tables.specs.Sites.{contents_at, place_of, relocs_of}
use Rattle.lk_tables.specs.Targets.{is_gone}
use Rattle.lk_tables.specs.Misfits.{misfit_defects, value_defects}
use Rattle.link_sections.specs.LaidOut.{LaidOut}
use Rattle.link_sections.specs.PoolViews.{Merged}
use Rattle.eh_frame.specs.declared.placing.Placed.{Placed}
use Rattle.eh_frame.specs.Bytes.{all_placed, placed_order, is_of, order_of, placed_cies, placed_defects, placed_fdes, placed_from, record_defects, reloc_defects, value_in}
use Rattle.eh_frame.specs.Laws.{comes_before}
use Rattle.eh_frame.specs.Plan.{CieKey, cie_key, cie_no, first_cies, is_alike, is_owner_in_place, plan_of, record_by, size_of, with_cie, written_cies, written_fdes}
use Rattle.eh_frame.proofs.Places.{place_le}
use Rattle.eh_frame.proofs.PlanLaws.{plan_laws}
use Rattle.link_driver.proofs.DefectOrder.{NotAfter, Ordered, all_same, later_place, up_filter, up_from_rises}
use Rattle.link_passes.proofs.Rising.{Up, all_append, all_map, all_weaker, up_append, up_walk}
use Rattle.link_driver.proofs.PhaseOrder.{AreInOrder, OfReloc, OfSection, RelocsUp, relocs_apart}
use Rattle.link_passes.proofs.RecordLists.{IsKnownList, known_lists, lists_in_order, place_known}

-- lists in general
filter_all : {X : Type 0} (P : X → Type 0) (test : X → Bool) (xs : List X) → ((x : X) → test x ≡ true → P x) → AllByRecursion P (filter test xs)
filter_all P test [] passes = tt
filter_all P test (x ∷ xs) passes = by (test x) refl (filter_all P test xs passes)
  where
    by : (on : Bool) → test x ≡ on → AllByRecursion P (filter test xs) → AllByRecursion P (if on then x ∷ filter test xs else filter test xs)
    by true is rest = (passes x is, rest)
    by false is rest = rest

all_filtered : {X : Type 0} (P Q : X → Type 0) (test : X → Bool) (xs : List X) → ((x : X) → test x ≡ true → P x → Q x) → AllByRecursion P xs → AllByRecursion Q (filter test xs)
all_filtered P Q test [] step all = tt
all_filtered P Q test (x ∷ xs) step all = by (test x) refl (all_filtered P Q test xs step all.1)
  where
    by : (on : Bool) → test x ≡ on → AllByRecursion Q (filter test xs) → AllByRecursion Q (if on then x ∷ filter test xs else filter test xs)
    by true is rest = (step x is all.0, rest)
    by false is rest = rest

up_filtered : {X : Type 0} (R S : X → X → Type 0) (test : X → Bool) (xs : List X) → ((x z : X) → test x ≡ true → test z ≡ true → R x z → S x z) → Up R xs → Up S (filter test xs)
up_filtered R S test [] step up = tt
up_filtered R S test (x ∷ xs) step up = by (test x) refl (up_filtered R S test xs step up.1)
  where
    by : (on : Bool) → test x ≡ on → Up S (filter test xs) → Up S (if on then x ∷ filter test xs else filter test xs)
    by true is rest = (all_filtered (R x) (S x) test xs (λ z on holds. step x z is on holds) up.0, rest)
    by false is rest = rest

all_pairs : {X : Type 0} (P : X → Type 0) (xs : List X) → ((k : ℕ) (d : X) → k < length xs → P (get_or xs k d)) → AllByRecursion P xs
all_pairs P [] each = tt
all_pairs P (x ∷ xs) each = (each 0 x (omega arith), all_pairs P xs (λ k d lt. each (suc k) d (omega (arith, lt))))

up_pairs : {X : Type 0} (R : X → X → Type 0) (xs : List X) → AllPairs R xs → Up R xs
up_pairs R [] pairs = tt
up_pairs R (x ∷ xs) pairs = (
  all_pairs (R x) xs (λ k d lt. pairs 0 (suc k) d (omega arith) (omega (arith, lt))),
  up_pairs R xs (λ i j d lt high. pairs (suc i) (suc j) d (omega (arith, lt)) (omega (arith, high))),
)

up_weaker : {X : Type 0} (R S : X → X → Type 0) (xs : List X) → ((x z : X) → R x z → S x z) → Up R xs → Up S xs
up_weaker R S [] step up = tt
up_weaker R S (x ∷ xs) step up = (all_weaker (R x) (S x) xs (step x) up.0, up_weaker R S xs step up.1)

all_both : {X : Type 0} (P Q : X → Type 0) (xs : List X) → AllByRecursion P xs → AllByRecursion Q xs → AllByRecursion (λ x. P x × Q x) xs
all_both P Q [] one two = tt
all_both P Q (x ∷ xs) one two = ((one.0, two.0), all_both P Q xs one.1 two.1)

up_both : {X : Type 0} (R S : X → X → Type 0) (xs : List X) → Up R xs → Up S xs → Up (λ x z. R x z × S x z) xs
up_both R S [] one two = tt
up_both R S (x ∷ xs) one two = (all_both (R x) (S x) xs one.0 two.0, up_both R S xs one.1 two.1)

up_rises : {X : Type 0} (key : X → ℕ) (xs : List X) → Up (λ x z. key x ≤ key z) (stable_order key xs)
up_rises key xs = up_from_rises key (stable_order key xs) (rises_order key xs)

-- an order keeps what is so of each and of any two
all_put : {X : Type 0} (P : X → Type 0) (key : X → ℕ) (x : X) (ys : List X) → P x → AllByRecursion P ys → AllByRecursion P (put_in key x ys)
all_put P key x [] here all = (here, tt)
all_put P key x (y ∷ ys) here all = by (nat_lt (key y) (key x)) (all_put P key x ys here all.1)
  where
    by : (on : Bool) → AllByRecursion P (put_in key x ys) → AllByRecursion P (if on then y ∷ put_in key x ys else x ∷ (y ∷ ys))
    by true rest = (all.0, rest)
    by false rest = (here, all)

pub all_ordered : {X : Type 0} (P : X → Type 0) (key : X → ℕ) (xs : List X) → AllByRecursion P xs → AllByRecursion P (stable_order key xs)
unfolding stable_order
all_ordered P key [] all = tt
all_ordered P key (x ∷ xs) all = all_put P key x (stable_order key xs) all.0 (all_ordered P key xs all.1)

up_put : {X : Type 0} (D : X → X → Type 0) (turned : (x z : X) → D x z → D z x) (key : X → ℕ) (x : X) (ys : List X) → AllByRecursion (D x) ys → Up D ys → Up D (put_in key x ys)
up_put D turned key x [] all up = (tt, tt)
up_put D turned key x (y ∷ ys) all up = by (nat_lt (key y) (key x)) (up_put D turned key x ys all.1 up.1)
  where
    by : (on : Bool) → Up D (put_in key x ys) → Up D (if on then y ∷ put_in key x ys else x ∷ (y ∷ ys))
    by true rest = (all_put (D y) key x ys (turned x y all.0) up.0, rest)
    by false rest = (all, up)

up_ordered : {X : Type 0} (D : X → X → Type 0) (turned : (x z : X) → D x z → D z x) (key : X → ℕ) (xs : List X) → Up D xs → Up D (stable_order key xs)
unfolding stable_order
up_ordered D turned key [] up = tt
up_ordered D turned key (x ∷ xs) up =
    up_put D turned key x (stable_order key xs) (all_ordered (D x) key xs up.0) (up_ordered D turned key xs up.1)

-- records of other numbers
abbrev Differ : FrameNo → FrameNo → Type 0
Differ m n = m.section ≡ n.section → m.at ≡ n.at → ⊥

abbrev DifferAt : (p q : Placed) → Type 0
DifferAt p q = Differ p.number q.number

no_from : (m n : FrameNo) → m.section ≡ n.section → m.at ≡ n.at → m ≡ n
no_from m n section at =
    ap (λ s. frame_no s m.at) section ∙ ap (frame_no n.section) at

before_differ : (m n : FrameNo) → comes_before m n ≡ true → Differ m n
before_differ m n before section at =
    ⊎_elim
    (λ (less : nat_lt m.section n.section ≡ true). let lt = ltb-true m.section n.section less in omega (arith, lt, section))
    (λ (same : (m.section == n.section && nat_lt m.at n.at) ≡ true).
    let lt = ltb-true m.at n.at (and_parts (m.section == n.section) (nat_lt m.at n.at) same).1 in
    omega (arith, lt, at))
    (or_cases (nat_lt m.section n.section) (m.section == n.section && nat_lt m.at n.at) before)

-- where records stand
pub placed_all : (P : FrameNo → Type 0) (lists : List RecordList) (at : ℕ) (ns : List FrameNo) → AllByRecursion P ns → AllByRecursion (λ (p : Placed). P p.number) (placed_from lists at ns)
placed_all P lists at [] all = tt
placed_all P lists at (n ∷ ns) all = (all.0, placed_all P lists (at + size_of lists n) ns all.1)

placed_up : (lists : List RecordList) (at : ℕ) (ns : List FrameNo) → Up Differ ns → Up DifferAt (placed_from lists at ns)
placed_up lists at [] up = tt
placed_up lists at (n ∷ ns) up = (placed_all (Differ n) lists (at + size_of lists n) ns up.0, placed_up lists (at + size_of lists n) ns up.1)

some_read : (rs : List RecordView) (at : ℕ) → unwrap_or (slice_index_or (map Some rs) at None) no_record ≡ get_or rs at no_record
some_read [] at = refl
some_read (r ∷ rs) zero = refl
some_read (r ∷ rs) (suc at) = some_read rs at

find_true : {X : Type 0} (p : X → Bool) (xs : List X) (x : X) → find p xs ≡ Some x → p x ≡ true
find_true p [] x is = cc
find_true {X} p (y ∷ ys) x is = by (p y) refl is (find_true p ys x)
  where
    by : (on : Bool) → p y ≡ on → (if on then Some y else find p ys) ≡ Some x → (find p ys ≡ Some x → p x ≡ true) → p x ≡ true
    by true here same later =
        let one : y ≡ x = cc in
        let P : X → Type 0 = λ z. p z ≡ true in
        subst P one here
    by false none same later = later same

-- where records stand in their section
place_end : (c : List ℕ) (j : ℕ) → end_at c (start_of c j) ≡ start_of c (suc j)
unfolding start_of
place_end c j = refl

-- the records of a section
module _ (files : List File) where
  abbrev records_at : (n : ℕ) → List RecordView
  records_at n = records_of (contents_at files n) (relocs_of files n)

  abbrev read : FrameNo → RecordView
  read num = get_or (records_at num.section) num.at no_record

  known_records : (l : RecordList) → IsKnownList files l → l.records ≡ records_at l.section
  known_records l known =
      let is = known.is in
      let give : SectionPlace → List RecordView = λ p.
      records_of (contents_of (file_at files p.file).bytes (section_at (file_at files p.file) p.index)) (relocs_at (file_at files p.file) p.index) in
      is.records ∙ sym (ap give (place_known files l known.of is))

  -- one that is found by its number, if it is
  found_in : (lists : List RecordList) → AllByRecursion (IsKnownList files) lists → (num : FrameNo) →
      (record_by lists num ≡ no_record) ⊎ (record_by lists num ≡ read num)
  unfolding record_at
  found_in [] known num = inl refl
  found_in (l ∷ lists) known num = by (l.section == num.section) refl (found_in lists known.1 num)
    where
      by : (on : Bool) → (l.section == num.section) ≡ on → (record_by lists num ≡ no_record) ⊎ (record_by lists num ≡ read num) →
          (unwrap_or (nth num.at (if on then Some l else find (λ (m : RecordList). m.section == num.section) lists)) no_record ≡ no_record)
          ⊎ (unwrap_or (nth num.at (if on then Some l else find (λ (m : RecordList). m.section == num.section) lists)) no_record ≡ read num)
      by true is later =
          let same = known_records l known.0 ∙ ap records_at (eqb-true l.section num.section is) in
          inr (some_read l.records num.at ∙ ap (λ rs. get_or rs num.at no_record) same)
      by false is later = later

  pub found : (num : FrameNo) → (record_by (all_lists files) num ≡ no_record) ⊎ (record_by (all_lists files) num ≡ read num)
  found num = found_in (all_lists files) (known_lists files) num

  read_cases : (num : FrameNo) → (read num ≡ no_record) ⊎ (read num ≡ record_in (contents_at files num.section) (relocs_of files num.section) num.at)
  unfolding first_records
  read_cases num =
      let c = contents_at files num.section in
      let give = record_in c (relocs_of files num.section) in
      elim (cases_lt num.at (count c)) [
        | inl lt ↦ inr (get_or-map-range_with_len give 0 (count c) num.at num.at no_record lt (omega arith))
        | inr past ↦ inl (get_or_past (map give (range_with_len 0 (count c))) num.at no_record (omega (arith, past, length-map-range_with_len give 0 (count c))))
      ]

  pub record_cases : (num : FrameNo) → (record_by (all_lists files) num ≡ no_record)
      ⊎ (record_by (all_lists files) num ≡ record_in (contents_at files num.section) (relocs_of files num.section) num.at)
  record_cases num = elim (found num) [
    | inl none ↦ inl none
    | inr some ↦ elim (read_cases num) [ inl none ↦ inl (some ∙ none) | inr is ↦ inr (some ∙ is) ]
  ]

  -- what an FDE leads to is a CIE
  by_cie : (c : List ℕ) (i : ℕ) → is_cie c (start_of c i) ≡ true → cie_of c i ≡ None
  by_cie c i is = ap (λ (t : Bool). if t then None else cie_before c i) is

  abbrev empty : Option ℕ
  empty = None

  either_none : (t : Bool) → (if t then empty else empty) ≡ empty
  either_none true = refl
  either_none false = refl

  first_none : (c : List ℕ) → cie_of c 0 ≡ None
  unfolding cie_before
  first_none c = either_none (is_cie c (start_of c 0))

  pointed : (c : List ℕ) (j i : ℕ) → cie_of c j ≡ Some i → cie_of c i ≡ None
  unfolding cie_before is_pointed_to
  pointed c j i is = by (is_cie c (start_of c j)) is
    where
      by : (t : Bool) → (if t then None else find (is_pointed_to c j) (range_with_len 0 j)) ≡ Some i → cie_of c i ≡ None
      by true num = cc
      by false at = by_cie c i (and_parts (is_cie c (start_of c i)) _ (find_true (is_pointed_to c j) (range_with_len 0 j) i at)).0

  none_read : (section i : ℕ) → cie_of (contents_at files section) i ≡ None → (read (frame_no section i)).cie ≡ None
  unfolding record_in
  none_read section i none = elim (read_cases (frame_no section i)) [
    | inl num ↦ ap (λ (r : RecordView). r.cie) num
    | inr is ↦ ap (λ (r : RecordView). r.cie) is ∙ none
  ]

  cie_at : (section j : ℕ) (o : Option ℕ) → (o ≡ None) ⊎ (cie_of (contents_at files section) j ≡ o) → (read (frame_no section (unwrap_or o 0))).cie ≡ None
  cie_at section j None which = none_read section 0 (first_none (contents_at files section))
  cie_at section j (Some i) (inl num) = cc
  cie_at section j (Some i) (inr is) = none_read section i (pointed (contents_at files section) j i is)

  none_cie : (num : FrameNo) → (read (cie_no (all_lists files) num)).cie ≡ None
  unfolding record_in
  none_cie num =
      let r = record_by (all_lists files) num in
      cie_at num.section num.at r.cie (elim (record_cases num) [
        | inl none ↦ inl (ap (λ (x : RecordView). x.cie) none)
        | inr is ↦ inr (sym (ap (λ (x : RecordView). x.cie) is))
      ])

-- no record is written twice
module _ (files : List File) (b : Bindings) (merged : List (Option Merged)) (leaders : List (Option ℕ)) where
  abbrev lists : List RecordList
  lists = all_lists files

  abbrev plan : PlanView
  plan = plan_of files b merged lists leaders

  abbrev Leads : FrameNo → Type 0
  Leads num = is_some (read files num).cie ≡ true

  led_some : (on : Bool) (o : Option ℕ) → is_owner_in_place leaders merged (if on then o else None) ≡ true → on ≡ true
  led_some true o led = refl
  led_some false o led = cc

  one_leads : (l : RecordList) → IsKnownList files l → (at : ℕ) → is_owner_in_place leaders merged (owner_at files b l at) ≡ true → Leads (frame_no l.section at)
  unfolding owner_in
  one_leads l known at led =
      let own = led_some (is_some (get_or l.records at no_record).cie) _ led in
      let P : List RecordView → Type 0 = λ rs. is_some (get_or rs at no_record).cie ≡ true in
      subst P (known_records files l known) own

  unless_gone : (P : FrameNo → Type 0) (gone : Bool) (xs : List FrameNo) → AllByRecursion P xs → AllByRecursion P (if gone then [] else xs)
  unless_gone P true xs all = tt
  unless_gone P false xs all = all

  -- what holds of each FDE of a function that is written
  abbrev Each : (P : FrameNo → Type 0) → Type 0
  Each P = (l : RecordList) → IsKnownList files l → (at : ℕ) → is_owner_in_place leaders merged (owner_at files b l at) ≡ true → P (frame_no l.section at)

  list_all : (P : FrameNo → Type 0) → Each P → (l : RecordList) → IsKnownList files l → AllByRecursion P (frames_where files b (is_owner_in_place leaders merged) l)
  unfolding frames_where
  list_all P each l known =
      let test : ℕ → Bool = λ at. is_owner_in_place leaders merged (owner_at files b l at) in
      unless_gone P (is_gone b l.section) _
      (all_map P (frame_no l.section) (filter test (range_with_len 0 (length l.records)))
      (filter_all (λ at. P (frame_no l.section at)) test (range_with_len 0 (length l.records)) (each l known)))

  lists_all : (P : FrameNo → Type 0) → Each P → (ls : List RecordList) → AllByRecursion (IsKnownList files) ls → AllByRecursion P (flat_map (frames_where files b (is_owner_in_place leaders merged)) ls)
  lists_all P each [] known = tt
  lists_all P each (l ∷ ls) known = all_append P (frames_where files b (is_owner_in_place leaders merged) l) _ (list_all P each l known.0) (lists_all P each ls known.1)

  pub fdes_all : (P : FrameNo → Type 0) → Each P → AllByRecursion P plan.fdes
  unfolding plan_of written_fdes
  fdes_all P each = lists_all P each lists (known_lists files)

  fdes_lead : AllByRecursion Leads plan.fdes
  fdes_lead = fdes_all Leads one_leads

  with_all : (P : FrameNo → Type 0) (key : FrameNo → CieKey) (known : List FrameNo) (cie : FrameNo) → AllByRecursion P known → P cie → AllByRecursion P (with_cie key known cie)
  with_all P key known cie all here = by (list_any (is_alike key cie) known)
    where
      by : (t : Bool) → AllByRecursion P (if t then known else known ++ (cie ∷ []))
      by true = all
      by false = all_append P known (cie ∷ []) all (here, tt)

  first_all : (P : FrameNo → Type 0) (key : FrameNo → CieKey) (known cies : List FrameNo) → AllByRecursion P known → AllByRecursion P cies → AllByRecursion P (first_cies key known cies)
  first_all P key known [] all more = all
  first_all P key known (cie ∷ cies) all more = first_all P key (with_cie key known cie) cies (with_all P key known cie all more.0) more.1

  -- what holds of the CIE of each FDE holds of each CIE that is written
  pub cies_all : (P : FrameNo → Type 0) → AllByRecursion (λ fde. P (cie_no lists fde)) plan.fdes → AllByRecursion P plan.cies
  unfolding plan_of written_cies
  cies_all P each =
      first_all P (cie_key files b merged lists) [] (map (cie_no lists) (written_fdes files b merged lists leaders)) tt (all_map P (cie_no lists) (written_fdes files b merged lists leaders) each)

  abbrev NoCie : FrameNo → Type 0
  NoCie num = (read files num).cie ≡ None

  cies_none : AllByRecursion NoCie plan.cies
  cies_none = cies_all NoCie (all_same (λ fde. NoCie (cie_no lists fde)) plan.fdes (none_cie files))

  unlike : (c f : FrameNo) → NoCie c → Leads f → Differ c f
  unlike c f none leads_it section at =
      let same = no_from c f section at in
      let num : false ≡ true = sym (ap is_some (sym (ap (λ (n : FrameNo). (read files n).cie) same) ∙ none)) ∙ leads_it in
      cc

  across : AllByRecursion (λ c. AllByRecursion (Differ c) plan.fdes) plan.cies
  across = all_weaker NoCie (λ c. AllByRecursion (Differ c) plan.fdes) plan.cies (λ c none. all_weaker Leads (Differ c) plan.fdes (λ f leads_it. unlike c f none leads_it) fdes_lead) cies_none

  cies_up : Up Differ plan.cies
  cies_up =
      let laws = plan_laws files b merged lists leaders (lists_in_order files) in
      let key = cie_key files b merged lists in
      up_weaker (λ m n. key m ≡ key n → ⊥) Differ plan.cies (λ m n apart section at. apart (ap key (no_from m n section at)))
      (up_pairs (λ m n. key m ≡ key n → ⊥) plan.cies laws.apart)

  fdes_up : Up Differ plan.fdes
  fdes_up =
      let laws = plan_laws files b merged lists leaders (lists_in_order files) in
      up_weaker (λ m n. comes_before m n ≡ true) Differ plan.fdes before_differ (up_pairs (λ m n. comes_before m n ≡ true) plan.fdes laws.order)

  all_up : Up DifferAt (all_placed lists plan)
  unfolding placed_cies placed_fdes
  all_up =
      up_append DifferAt (placed_cies lists plan) (placed_fdes lists plan) (placed_up lists _ plan.cies cies_up) (placed_up lists _ plan.fdes fdes_up)
      (placed_all (λ c. AllByRecursion (λ (q : Placed). Differ c q.number) (placed_fdes lists plan)) lists _ plan.cies
      (all_weaker (λ c. AllByRecursion (Differ c) plan.fdes) (λ c. AllByRecursion (λ (q : Placed). Differ c q.number) (placed_fdes lists plan)) plan.cies
      (λ c all. placed_all (Differ c) lists _ plan.fdes all) across))

  -- those of a section in order of their numbers
  abbrev Later : (n : ℕ) → (p q : Placed) → Type 0
  Later n p q = (p.number.section ≡ n) × (q.number.section ≡ n) × (p.number.at < q.number.at)

  later_of : (n : ℕ) (p q : Placed) → is_of n p ≡ true → is_of n q ≡ true → (order_of p ≤ order_of q) × DifferAt p q → Later n p q
  later_of n p q first second holds =
      let one : p.number.section ≡ n = eqb-true p.number.section n first in
      let two : q.number.section ≡ n = eqb-true q.number.section n second in
      let le = holds.0 in
      elim (cases_lt p.number.at q.number.at) [
        | inl lt ↦ (one, two, lt)
        | inr past ↦
            let same : p.number.at ≡ q.number.at = omega (arith, one, two, le, past) in
            absurd (holds.1 (one ∙ sym two) same)
      ]

  section_up : (n : ℕ) → Up (Later n) (filter (is_of n) (placed_order (all_placed lists plan)))
  unfolding placed_order
  section_up n =
      let R : Placed → Placed → Type 0 = λ p q. (order_of p ≤ order_of q) × DifferAt p q in
      let placed = all_placed lists plan in
      up_filtered R (Later n) (is_of n) (stable_order order_of placed) (later_of n)
      (up_both (λ p q. order_of p ≤ order_of q) DifferAt (stable_order order_of placed) (up_rises order_of placed)
      (up_ordered DifferAt (λ p q differ section at. differ (sym section) (sym at)) order_of placed all_up))

  -- their defects
  module _ (laid : LaidOut) (start : ℕ) where
    misfits_of : (at : SectionPlace) (r : Reloc) (v : ℤ) (m : Option Misfit) → AllByRecursion (OfReloc at.file at.index r) (misfit_defects at r v m)
    misfits_of at r v None = tt
    misfits_of at r v (Some Odd) = (record { own = record { file = refl; section = refl }; place = refl }, tt)
    misfits_of at r v (Some Range) = (record { own = record { file = refl; section = refl }; place = refl }, tt)

    misfits_up : (at : SectionPlace) (r : Reloc) (v : ℤ) (m : Option Misfit) → Ordered (misfit_defects at r v m)
    misfits_up at r v None = tt
    misfits_up at r v (Some Odd) = (tt, tt)
    misfits_up at r v (Some Range) = (tt, tt)

    values_of : (at : SectionPlace) (r : Reloc) (reach : Reach) (v : Option ℤ) → AllByRecursion (OfReloc at.file at.index r) (value_defects at r reach v)
    values_of at r reach None = tt
    values_of at r reach (Some v) = misfits_of at r v (misfit_of reach v)

    values_up : (at : SectionPlace) (r : Reloc) (reach : Reach) (v : Option ℤ) → Ordered (value_defects at r reach v)
    values_up at r reach None = tt
    values_up at r reach (Some v) = misfits_up at r v (misfit_of reach v)

    reloc_of : (at : SectionPlace) (from address : ℕ) (r : Reloc) → AllByRecursion (OfReloc at.file at.index r) (reloc_defects files b leaders laid at from address r)
    unfolding reloc_defects
    reloc_of at from address r = values_of at r (kind_of r.kind).reach (value_in files b leaders laid at.file r (pos (address + (r.offset - from))) (pos 0))

    reloc_up : (at : SectionPlace) (from address : ℕ) (r : Reloc) → Ordered (reloc_defects files b leaders laid at from address r)
    unfolding reloc_defects
    reloc_up at from address r = values_up at r (kind_of r.kind).reach (value_in files b leaders laid at.file r (pos (address + (r.offset - from))) (pos 0))

    abbrev LiesIn : FrameNo → Reloc → Type 0
    LiesIn num r = (start_of (contents_at files num.section) num.at ≤ r.offset) × (r.offset < start_of (contents_at files num.section) (suc num.at))

    abbrev record_relocs : FrameNo → List Reloc
    record_relocs num = (record_by lists num).relocs

    relocs_lie : (num : FrameNo) → AllByRecursion (LiesIn num) (record_relocs num)
    unfolding record_in relocs_in
    relocs_lie num =
        let P : RecordView → Type 0 = λ r. AllByRecursion (LiesIn num) r.relocs in
        let c = contents_at files num.section in
        let from = start_of c num.at in
        let test : Reloc → Bool = λ r. nat_le from r.offset && nat_lt r.offset (end_at c from) in
        elim (record_cases files num) [
          | inl none ↦ subst P (sym none) tt
          | inr is ↦ subst P (sym is) (filter_all (LiesIn num) test (relocs_of files num.section) (λ r on.
              let both = and_parts (nat_le from r.offset) (nat_lt r.offset (end_at c from)) on in
              let low = leb-true from r.offset both.0 in
              let high = ltb-true r.offset (end_at c from) both.1 in
              (low, omega (arith, high, place_end c num.at))))
        ]

    -- of the section of its record, between the record's ends
    record Inside (num : FrameNo) (e : Defect) : Type 0 where
      own : OfSection (place_of files num.section).file (place_of files num.section).index e
      low : start_of (contents_at files num.section) num.at ≤ e.place
      high : e.place < start_of (contents_at files num.section) (suc num.at)

    flat_inside : (num : FrameNo) (from address : ℕ) (rs : List Reloc) → AllByRecursion (LiesIn num) rs →
        AllByRecursion (Inside num) (flat_map (reloc_defects files b leaders laid (place_of files num.section) from address) rs)
    flat_inside num from address [] lie = tt
    flat_inside num from address (r ∷ rs) lie =
        let at = place_of files num.section in
        all_append (Inside num) (reloc_defects files b leaders laid at from address r) _
        (all_weaker (OfReloc at.file at.index r) (Inside num) (reloc_defects files b leaders laid at from address r)
        (λ e of. record { own = of.own; low = omega (arith, of.place, lie.0.0); high = omega (arith, of.place, lie.0.1) }) (reloc_of at from address r))
        (flat_inside num from address rs lie.1)

    placed_inside : (p : Placed) → AllByRecursion (Inside p.number) (placed_defects files b leaders laid lists start p)
    unfolding placed_defects
    placed_inside p = flat_inside p.number (record_by lists p.number).from (start + p.at) (record_relocs p.number) (relocs_lie p.number)

    relocs_rise : ((f : ℕ) → AreInOrder (file_at files f)) → (num : FrameNo) → Up RelocsUp (record_relocs num)
    unfolding record_in relocs_in
    relocs_rise rise num =
        let P : RecordView → Type 0 = λ r. Up RelocsUp r.relocs in
        let at = place_of files num.section in
        elim (record_cases files num) [
          | inl none ↦ subst P (sym none) tt
          | inr is ↦ subst P (sym is) (up_filter RelocsUp _ (relocs_of files num.section) (rise at.file at.index))
        ]

    placed_ordered : ((f : ℕ) → AreInOrder (file_at files f)) → (p : Placed) → Ordered (placed_defects files b leaders laid lists start p)
    unfolding placed_defects
    placed_ordered rise p =
        let at = place_of files p.number.section in
        up_walk RelocsUp NotAfter (OfReloc at.file at.index) (relocs_apart at.file at.index) (reloc_defects files b leaders laid at (record_by lists p.number).from (start + p.at))
        (reloc_of at (record_by lists p.number).from (start + p.at)) (reloc_up at (record_by lists p.number).from (start + p.at))
        (record_relocs p.number) (relocs_rise rise p.number)

    abbrev InsideOf : (n : ℕ) → Placed → Defect → Type 0
    InsideOf n p e = Inside p.number e

    inside_apart : (n : ℕ) (p q : Placed) (d e : Defect) → Later n p q → InsideOf n p d → InsideOf n q e → NotAfter d e
    inside_apart n p q d e later here there =
        let place_n = place_of files n in
        let c = contents_at files n in
        let P : ℕ → Type 0 = λ s. (d.file ≡ (place_of files s).file) × (d.section ≡ (place_of files s).index) × (d.place < start_of (contents_at files s) (suc p.number.at)) in
        let Q : ℕ → Type 0 = λ s. (e.file ≡ (place_of files s).file) × (e.section ≡ (place_of files s).index) × (start_of (contents_at files s) q.number.at ≤ e.place) in
        let one = subst P later.0 (here.own.file, here.own.section, here.high) in
        let two = subst Q later.1 (there.own.file, there.own.section, there.low) in
        let rises = place_le c (suc p.number.at) q.number.at (omega (arith, later.2)) in
        later_place e d (two.0 ∙ sym one.0) (two.1 ∙ sym one.1) (omega (arith, one.2, rises, two.2))

    pub records_ordered : ((f : ℕ) → AreInOrder (file_at files f)) → (n : ℕ) → Ordered (record_defects files b leaders laid lists plan start n)
    unfolding record_defects
    records_ordered rise n =
        up_walk (Later n) NotAfter (InsideOf n) (inside_apart n) (placed_defects files b leaders laid lists start) placed_inside (placed_ordered rise)
        (filter (is_of n) (placed_order (all_placed lists plan))) (section_up n)

    flat_section : (n : ℕ) (ps : List Placed) → AllByRecursion (λ (p : Placed). p.number.section ≡ n) ps →
        AllByRecursion (OfSection (place_of files n).file (place_of files n).index) (flat_map (placed_defects files b leaders laid lists start) ps)
    flat_section n [] all = tt
    flat_section n (p ∷ ps) all =
        let Of : ℕ → Defect → Type 0 = λ s. OfSection (place_of files s).file (place_of files s).index in
        let P : ℕ → Type 0 = λ s. AllByRecursion (Of s) (placed_defects files b leaders laid lists start p) in
        all_append (Of n) (placed_defects files b leaders laid lists start p) _
        (subst P all.0 (all_weaker (Inside p.number) (Of p.number.section) (placed_defects files b leaders laid lists start p) (λ e of. of.own) (placed_inside p)))
        (flat_section n ps all.1)

    pub records_section : (n : ℕ) → AllByRecursion (OfSection (place_of files n).file (place_of files n).index) (record_defects files b leaders laid lists plan start n)
    unfolding record_defects
    records_section n =
        flat_section n (filter (is_of n) (placed_order (all_placed lists plan)))
        (filter_all (λ (p : Placed). p.number.section ≡ n) (is_of n) (placed_order (all_placed lists plan)) (λ p on. eqb-true p.number.section n on))
