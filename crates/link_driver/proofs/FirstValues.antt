-- The values of relocations and of unwind records, tested one after the other: the first defect of both.
use Rattle.std.proofs.Common.{◌≡◌, ℕ, zero, suc, ◌+◌, ◌-◌, ◌<◌, ◌≤◌, ◌⊎◌, ◌==◌, ◌&&◌, ◌||◌, nat_lt, not, Bool, true, false, Option, Some, None, List, [], ◌∷◌, ◌++◌, flat_map, length, refl, sym, ap, ◌∙◌, subst, inl, inr, ⊎_elim, arith}
use Rattle.std.specs.Prelude.{codes, filter, if◌then◌else◌}
use Rattle.std.specs.List.{AllByRecursion, range_with_len, sum_by}
use Rattle.std.specs.Str.{bytes_eq}
use Rattle.std.proofs.lemmas.Bool.{and_parts, cases_lt, cond-false, cond-true, eq-eqb, eqb-true, lt-ltb, le-ltb, not-true, or_left, or_right}
use Rattle.lk_base.specs.declared.defects.Defect.{Defect}
use Rattle.lk_base.specs.declared.defects.LinkStop.{LinkStop}
use Rattle.lk_base.specs.declared.defects.LinkStop.TheVariants as stops
use Rattle.lk_base.specs.Firsts.{BeginsWith, StopsAt}
use Rattle.lk_base.specs.RelocKinds.{is_among}
use Rattle.lk_base.specs.Order.{stable_order}
use Rattle.lk_base.specs.declared.abi.TheConstants.{SHT_PROGBITS}
use Rattle.lk_base.proofs.NoneGiven.{none_at}
use Rattle.lk_tables.specs.declared.records.FrameNo.{FrameNo}
use Rattle.lk_tables.specs.declared.section_places.SectionPlace.{SectionPlace}
use Rattle.lk_tables.specs.Binding.{Bindings}
use Rattle.lk_tables.specs.Files.{File, file_at, first_section, is_frame_at, section_at, section_no, section_total, writes}
use Rattle.lk_tables.specs.FramePlans.{PlanView}
use Rattle.lk_tables.specs.Frames.{RecordList, all_lists, is_number}
use Rattle.lk_tables.specs.declared.heads.Section.{Section}
use Rattle.lk_tables.specs.InputSections.{is_own, may_stay, may_stay_at}
use Rattle.lk_tables.specs.Names.{text_of}
use Rattle.lk_tables.specs.Sections.{is_frame, is_loaded, is_written, loaded_types}
use Rattle.lk_tables.specs.Sites.{IsPlaceOf, place_of}
use Rattle.lk_tables.specs.Targets.{is_gone}
use Rattle.lk_tables.proofs.FirstNumbers.{section_more, section_upto}
use Rattle.lk_tables.proofs.Owners.{frame_within, place_of_number}
use Rattle.link_sections.specs.LaidOut.{LaidOut}
use Rattle.link_sections.specs.Leaders.{leader_at, leads}
use Rattle.link_sections.specs.PoolViews.{Merged}
use Rattle.output_sections.specs.Items.{AreLeaders}
use Rattle.eh_frame.specs.declared.placing.Placed.{Placed}
use Rattle.eh_frame.specs.Bytes.{all_placed, frame_defects, placed_order, is_of, order_of, placed_cies, placed_defects, placed_fdes, record_defects}
use Rattle.eh_frame.specs.Plan.{plan_of, size_of}
use Rattle.reloc_apply.specs.Relocated.{relocation_defects, section_defects}
use Rattle.link_driver.specs.Values.{comes_first, earlier, earlier_stop, has_records, value_defects, values_at}
use Rattle.link_passes.proofs.Rising.{all_append}
use Rattle.link_driver.proofs.FrameOrder.{all_ordered, cies_all, fdes_all, placed_all, records_section}
use Rattle.link_driver.proofs.LaidOrder.{section_of}
use Rattle.link_driver.proofs.PhaseOrder.{OfSection}
use Rattle.link_passes.proofs.RecordLists.{IsKnownList, place_known}

-- lists over numbers
pub flat_same : {X : Type 0} (f g : ℕ → List X) (count a : ℕ) → ((n : ℕ) → a ≤ n → n < a + count → f n ≡ g n) → flat_map f (range_with_len a count) ≡ flat_map g (range_with_len a count)
flat_same f g zero a same = refl
flat_same f g (suc count) a same =
    ap (λ l. l ++ flat_map f (range_with_len (a + 1) count)) (same a (omega arith) (omega arith))
    ∙ ap (λ l. g a ++ l) (flat_same f g count (a + 1) (λ n low high. same n (omega (arith, low)) (omega (arith, high))))

-- of two walks over the same numbers, of which at each number one gives nothing, the first defect of both is the earlier of the first of each
module _ (Of : ℕ → Defect → Type 0) (f g h : ℕ → List Defect) (of_f : (n : ℕ) → AllByRecursion (Of n) (f n)) (of_g : (n : ℕ) → AllByRecursion (Of n) (g n)) where
  record IsIn (a b : ℕ) (d : Defect) : Type 0 where
    at : ℕ
    low : a ≤ at
    high : at < b
    own : Of at d

  first_in : (walk : ℕ → List Defect) → ((n : ℕ) → AllByRecursion (Of n) (walk n)) → (count a : ℕ) (d : Defect) → BeginsWith (flat_map walk (range_with_len a count)) d → IsIn a (a + count) d
  first_in walk of zero a d begins = let wrong : [] ≡ d ∷ begins.0 = begins.1 in cc
  first_in walk of (suc count) a d begins = by (walk a) (of a) refl (first_in walk of count (a + 1) d)
    where
      by : (xs : List Defect) → AllByRecursion (Of a) xs → walk a ≡ xs →
          (BeginsWith (flat_map walk (range_with_len (a + 1) count)) d → IsIn (a + 1) ((a + 1) + count) d) → IsIn a (a + suc count) d
      by [] own is further =
          let rest : BeginsWith (flat_map walk (range_with_len (a + 1) count)) d =
          (begins.0, sym (ap (λ l. l ++ flat_map walk (range_with_len (a + 1) count)) is) ∙ begins.1) in
          let later = further rest in
          record { at = later.at; low = omega (arith, later.low); high = omega (arith, later.high); own = later.own }
      by (x ∷ xs) own is further =
          let begins_so : x ∷ (xs ++ flat_map walk (range_with_len (a + 1) count)) ≡ d ∷ begins.0 =
          sym (ap (λ l. l ++ flat_map walk (range_with_len (a + 1) count)) is) ∙ begins.1 in
          let same : x ≡ d = cc in
          record { at = a; low = omega arith; high = omega arith; own = subst (Of a) same own.0 }

  abbrev Choice : ℕ → Type 0
  Choice n = ((g n ≡ []) × (h n ≡ f n)) ⊎ ((f n ≡ []) × (h n ≡ g n))

  abbrev AreApart : (end : ℕ) → Type 0
  AreApart end = (j k : ℕ) (d e : Defect) → j < k → k < end → Of j d → Of k e → (comes_first d e ≡ true) × (comes_first e d ≡ false)

  abbrev walked : (ℕ → List Defect) → (a count : ℕ) → List Defect
  walked walk a count = flat_map walk (range_with_len a count)

  next : (walk : ℕ → List Defect) (a count : ℕ) (d : Defect) → walk a ≡ [] → BeginsWith (walked walk a (suc count)) d → BeginsWith (walked walk (a + 1) count) d
  next walk a count d none begins = (begins.0, sym (ap (λ l. l ++ walked walk (a + 1) count) none) ∙ begins.1)

  back : (walk : ℕ → List Defect) (a count : ℕ) (d : Defect) → walk a ≡ [] → BeginsWith (walked walk (a + 1) count) d → BeginsWith (walked walk a (suc count)) d
  back walk a count d none begins = (begins.0, ap (λ l. l ++ walked walk (a + 1) count) none ∙ begins.1)

  moved : (walk : ℕ → List Defect) (a count : ℕ) (d x : Defect) (xs : List Defect) → walk a ≡ x ∷ xs → h a ≡ walk a → BeginsWith (walked walk a (suc count)) d → BeginsWith (walked h a (suc count)) d
  moved walk a count d x xs is same begins =
      let begins_so : x ∷ (xs ++ walked walk (a + 1) count) ≡ d ∷ begins.0 = sym (ap (λ l. l ++ walked walk (a + 1) count) is) ∙ begins.1 in
      let first : x ≡ d = cc in
      (xs ++ walked h (a + 1) count, ap (λ l. l ++ walked h (a + 1) count) (same ∙ is) ∙ ap (λ y. y ∷ (xs ++ walked h (a + 1) count)) first)

  first_own : (walk : ℕ → List Defect) → ((n : ℕ) → AllByRecursion (Of n) (walk n)) → (a count : ℕ) (d x : Defect) (xs : List Defect) → walk a ≡ x ∷ xs →
      BeginsWith (walked walk a (suc count)) d → Of a d
  first_own walk of a count d x xs is begins =
      let begins_so : x ∷ (xs ++ walked walk (a + 1) count) ≡ d ∷ begins.0 = sym (ap (λ l. l ++ walked walk (a + 1) count) is) ∙ begins.1 in
      let first : x ≡ d = cc in
      let P : List Defect → Type 0 = λ l. AllByRecursion (Of a) l in
      let own = subst P is (of a) in
      subst (Of a) first own.0

  both_step : (count a : ℕ) (d e : Defect) → Choice a → AreApart (a + suc count) → BeginsWith (walked f a (suc count)) d → BeginsWith (walked g a (suc count)) e →
      (BeginsWith (walked f (a + 1) count) d → BeginsWith (walked g (a + 1) count) e → BeginsWith (walked h (a + 1) count) (earlier d e)) →
      BeginsWith (walked h a (suc count)) (earlier d e)
  both_step count a d e choice apart first second further = by_choice choice
    where
      rest : f a ≡ [] → g a ≡ [] → h a ≡ [] → BeginsWith (walked h a (suc count)) (earlier d e)
      rest none nor also = back h a count (earlier d e) also (further (next f a count d none first) (next g a count e nor second))

      by_first : (xs : List Defect) → f a ≡ xs → g a ≡ [] → h a ≡ f a → BeginsWith (walked h a (suc count)) (earlier d e)
      by_first [] is none same = rest is none (same ∙ is)
      by_first (x ∷ xs) is none same =
          let own = first_own f of_f a count d x xs is first in
          let later = first_in g of_g count (a + 1) e (next g a count e none second) in
          let order = apart a later.at d e (omega (arith, later.low)) (omega (arith, later.high)) own later.own in
          let P : Defect → Type 0 = λ z. BeginsWith (walked h a (suc count)) z in
          subst P (sym (cond-false (comes_first e d) e d order.1)) (moved f a count d x xs is same first)

      by_second : (xs : List Defect) → g a ≡ xs → f a ≡ [] → h a ≡ g a → BeginsWith (walked h a (suc count)) (earlier d e)
      by_second [] is none same = rest none is (same ∙ is)
      by_second (x ∷ xs) is none same =
          let own = first_own g of_g a count e x xs is second in
          let later = first_in f of_f count (a + 1) d (next f a count d none first) in
          let order = apart a later.at e d (omega (arith, later.low)) (omega (arith, later.high)) own later.own in
          let P : Defect → Type 0 = λ z. BeginsWith (walked h a (suc count)) z in
          subst P (sym (cond-true (comes_first e d) e d order.0)) (moved g a count e x xs is same second)

      by_choice : Choice a → BeginsWith (walked h a (suc count)) (earlier d e)
      by_choice (inl (none, same)) = by_first (f a) refl none same
      by_choice (inr (none, same)) = by_second (g a) refl none same

  pub first_of_two : (count a : ℕ) (d e : Defect) → ((n : ℕ) → a ≤ n → n < a + count → Choice n) → AreApart (a + count) →
      BeginsWith (walked f a count) d → BeginsWith (walked g a count) e → BeginsWith (walked h a count) (earlier d e)
  first_of_two zero a d e choice apart first second = let wrong : [] ≡ d ∷ first.0 = first.1 in cc
  first_of_two (suc count) a d e choice apart first second =
      both_step count a d e (choice a (omega arith) (omega arith)) apart first second
      (first_of_two count (a + 1) d e (λ n low high. choice n (omega (arith, low)) (omega (arith, high)))
      (λ j k x y lt high one two. apart j k x y lt (omega (arith, high)) one two))

-- places of sections by their numbers
places_up : (files : List File) (j k : ℕ) → j < k → k < section_total files →
    ((place_of files j).file < (place_of files k).file) ⊎ (((place_of files j).file ≡ (place_of files k).file) × ((place_of files j).index < (place_of files k).index))
places_up files j k lt below =
    let p = place_of files j in
    let q = place_of files k in
    let first : IsPlaceOf files j p = place_of_number files j (omega (arith, lt, below)) in
    let next : IsPlaceOf files k q = place_of_number files k below in
    ⊎_elim
    (λ (less : p.file < q.file). inl less)
    (λ (most : q.file ≤ p.file). ⊎_elim
    (λ (more : q.file < p.file).
    let wrong : ⊥ = omega (arith, section_more files q.file next.file, section_upto files (q.file + 1) p.file (omega (arith, more)), next.index, first.number, next.number, lt) in
    absurd wrong)
    (λ (least : p.file ≤ q.file).
    let same : p.file ≡ q.file = omega (arith, most, least) in
    let start = ap (first_section files) same in
    inr (same, omega (arith, start, first.number, next.number, lt)))
    (cases_lt q.file p.file))
    (cases_lt p.file q.file)

abbrev OfNumber : List File → ℕ → Defect → Type 0
OfNumber files n d = OfSection (place_of files n).file (place_of files n).index d

neither : (a b : Bool) → a ≡ false → b ≡ false → (a || b) ≡ false
neither a b one two = ap (λ t. t || b) one ∙ two

off_left : (a b : Bool) → a ≡ false → (a && b) ≡ false
off_left a b one = ap (λ t. t && b) one

off_right : (a b : Bool) → b ≡ false → (a && b) ≡ false
off_right true b two = two
off_right false b two = refl

both_on : (a b : Bool) → a ≡ true → b ≡ true → (a && b) ≡ true
both_on a b one two = ap (λ t. t && b) one ∙ two

differ : (m n : ℕ) → (m ≡ n → ⊥) → (m == n) ≡ false
differ m n wrong = by (m == n) refl
  where
    by : (t : Bool) → (m == n) ≡ t → t ≡ false
    by true is = absurd (wrong (eqb-true m n is))
    by false is = refl

sections_apart : (files : List File) (j k : ℕ) (d e : Defect) → j < k → k < section_total files → OfNumber files j d → OfNumber files k e →
    (comes_first d e ≡ true) × (comes_first e d ≡ false)
sections_apart files j k d e lt below here there = elim (places_up files j k lt below) [
  | inl less ↦
      let low : d.file < e.file = omega (arith, here.file, there.file, less) in (
        or_left (nat_lt d.file e.file) (d.file == e.file && nat_lt d.section e.section) (lt-ltb d.file e.file low),
        neither (nat_lt e.file d.file) (e.file == d.file && nat_lt e.section d.section) (le-ltb e.file d.file (omega (arith, low)))
            (off_left (e.file == d.file) (nat_lt e.section d.section) (differ e.file d.file (λ same. omega (arith, same, low)))),
      )
  | inr both ↦
      let same : d.file ≡ e.file = omega (arith, here.file, there.file, both.0) in
      let low : d.section < e.section = omega (arith, here.section, there.section, both.1) in (
        or_right (nat_lt d.file e.file) (d.file == e.file && nat_lt d.section e.section)
            (both_on (d.file == e.file) (nat_lt d.section e.section) (eq-eqb d.file e.file same) (lt-ltb d.section e.section low)),
        neither (nat_lt e.file d.file) (e.file == d.file && nat_lt e.section d.section) (le-ltb e.file d.file (omega (arith, same)))
            (off_right (e.file == d.file) (nat_lt e.section d.section) (le-ltb e.section d.section (omega (arith, low)))),
      )
]

-- a section that has unwind records is not written by itself, so it is not its own leader
not_both : (b : List ℕ) (s : Section) → is_written b s ≡ true → is_frame b s ≡ true → ⊥
unfolding is_written is_frame
not_both b s written frame =
    let named = bytes_eq (text_of b s.name) (codes ".eh_frame") in
    let one = (and_parts (is_among loaded_types s.sh_type) (not named) (and_parts (is_loaded s) _ written).1).1 in
    let two = (and_parts (s.sh_type == SHT_PROGBITS) named (and_parts (is_loaded s) _ frame).1).1 in
    let wrong : false ≡ true = sym (not-true named one) ∙ two in
    cc

stay_not : (files : List File) (b : Bindings) (n : ℕ) → has_records files n ≡ true → may_stay_at files b n ≡ true → ⊥
unfolding may_stay
stay_not files b n has stays =
    let p = place_of files n in
    let file = file_at files p.file in
    let own : is_own files b p.file p.index ≡ true = lt-ltb p.index (length file.head.sections) (frame_within file p.index has) in
    let written = (and_parts (writes file p.index) (not (is_gone b (section_no files p.file p.index))) (sym (cond-true (is_own files b p.file p.index) _ _ own) ∙ stays)).0 in
    not_both file.bytes (section_at file p.index) (and_parts (nat_lt 0 p.index) _ written).1 (and_parts (nat_lt 0 p.index) _ has).1

number_is : (o : Option ℕ) (n : ℕ) → is_number o n ≡ true → o ≡ Some n
number_is None n is = cc
number_is (Some m) n is = ap Some (eqb-true m n is)

module _ (files : List File) (b : Bindings) (leaders : List (Option ℕ)) (laid : LaidOut) where
  leads_not : AreLeaders files b leaders → (n : ℕ) → has_records files n ≡ true → leads leaders n ≡ false
  leads_not lead n has = by (leads leaders n) refl
    where
      by : (t : Bool) → leads leaders n ≡ t → t ≡ false
      by true is = absurd (stay_not files b n has (lead.stay n n (number_is (leader_at leaders n) n is)).stays)
      by false is = refl

  section_none : AreLeaders files b leaders → (n : ℕ) → has_records files n ≡ true → section_defects files b leaders laid n ≡ []
  unfolding section_defects
  section_none lead n has = cond-false (leads leaders n) _ [] (leads_not lead n has)

  module _ (merged : List (Option Merged)) (start : ℕ) where
    abbrev lists : List RecordList
    lists = all_lists files

    abbrev plan : PlanView
    plan = plan_of files b merged lists leaders

    abbrev Has : FrameNo → Type 0
    Has num = has_records files num.section ≡ true

    list_has : (l : RecordList) → IsKnownList files l → has_records files l.section ≡ true
    list_has l known =
        let give : SectionPlace → Bool = λ p. is_frame_at (file_at files p.file) p.index in
        ap give (place_known files l known.of known.is) ∙ known.is.frame

    fdes_have : AllByRecursion Has plan.fdes
    fdes_have = fdes_all files b merged leaders Has (λ l known at led. list_has l known)

    placed_have : AllByRecursion (λ (p : Placed). Has p.number) (all_placed lists plan)
    unfolding placed_cies placed_fdes
    placed_have =
        all_append (λ (p : Placed). Has p.number) (placed_cies lists plan) (placed_fdes lists plan)
        (placed_all Has lists 0 plan.cies (cies_all files b merged leaders Has fdes_have)) (placed_all Has lists (sum_by (size_of lists) plan.cies) plan.fdes fdes_have)

    filter_none : (n : ℕ) → has_records files n ≡ false → (ps : List Placed) → AllByRecursion (λ (p : Placed). Has p.number) ps → filter (is_of n) ps ≡ []
    filter_none n off [] all = refl
    filter_none n off (p ∷ ps) all = by (is_of n p) refl (filter_none n off ps all.1)
      where
        by : (t : Bool) → is_of n p ≡ t → filter (is_of n) ps ≡ [] → (if t then p ∷ filter (is_of n) ps else filter (is_of n) ps) ≡ []
        by true is rest =
            let P : ℕ → Type 0 = λ s. has_records files s ≡ true in
            let on = subst P (eqb-true p.number.section n is) all.0 in
            let wrong : false ≡ true = sym off ∙ on in
            cc
        by false is rest = rest

    record_none : (n : ℕ) → has_records files n ≡ false → record_defects files b leaders laid lists plan start n ≡ []
    unfolding record_defects placed_order
    record_none n off =
        ap (flat_map (placed_defects files b leaders laid lists start))
        (filter_none n off (stable_order order_of (all_placed lists plan)) (all_ordered (λ (p : Placed). Has p.number) order_of (all_placed lists plan) placed_have))

-- at each number either is there
module _ (files : List File) (b : Bindings) (merged : List (Option Merged)) (leaders : List (Option ℕ)) (laid : LaidOut) (lead : AreLeaders files b leaders) where
  abbrev plan_is : PlanView
  plan_is = plan_of files b merged (all_lists files) leaders

  abbrev records : ℕ → List Defect
  records = record_defects files b leaders laid (all_lists files) plan_is laid.bounds.frames

  abbrev sections : ℕ → List Defect
  sections = section_defects files b leaders laid

  abbrev values : ℕ → List Defect
  values = values_at files b leaders laid plan_is

  choice : (n : ℕ) → ((records n ≡ []) × (values n ≡ sections n)) ⊎ ((sections n ≡ []) × (values n ≡ records n))
  choice n = by (has_records files n) refl
    where
      by : (t : Bool) → has_records files n ≡ t → ((records n ≡ []) × (values n ≡ sections n)) ⊎ ((sections n ≡ []) × (values n ≡ records n))
      by true is = inr (section_none files b leaders laid lead n is, cond-true (has_records files n) (records n) (sections n) is)
      by false is = inl (record_none files b leaders laid merged laid.bounds.frames n is, cond-false (has_records files n) (records n) (sections n) is)

  by_sections : (n : ℕ) → records n ≡ [] → values n ≡ sections n
  by_sections n none = elim (choice n) [ inl left ↦ left.1 | inr right ↦ right.1 ∙ none ∙ sym right.0 ]

  by_records : (n : ℕ) → sections n ≡ [] → values n ≡ records n
  by_records n none = elim (choice n) [ inl left ↦ left.1 ∙ none ∙ sym left.0 | inr right ↦ right.1 ]

  -- where no value of an unwind record is wrong, those of relocations are left; and the other way round
  pub sections_left : frame_defects files b leaders laid (all_lists files) plan_is laid.bounds.frames ≡ [] →
      value_defects files b leaders laid plan_is ≡ relocation_defects files b leaders laid
  unfolding value_defects frame_defects relocation_defects
  sections_left none =
      flat_same values sections (section_total files) 0 (λ n low high. by_sections n (none_at records (section_total files) 0 n none low high))

  pub records_left : relocation_defects files b leaders laid ≡ [] →
      value_defects files b leaders laid plan_is ≡ frame_defects files b leaders laid (all_lists files) plan_is laid.bounds.frames
  unfolding value_defects frame_defects relocation_defects
  records_left none =
      flat_same values records (section_total files) 0 (λ n low high. by_records n (none_at sections (section_total files) 0 n none low high))

  pub both_first : (d e : Defect) → BeginsWith (relocation_defects files b leaders laid) d →
      BeginsWith (frame_defects files b leaders laid (all_lists files) plan_is laid.bounds.frames) e →
      BeginsWith (value_defects files b leaders laid plan_is) (earlier d e)
  unfolding value_defects frame_defects relocation_defects
  both_first d e first second =
      first_of_two (OfNumber files) sections records values (section_of files b leaders laid) (records_section files b merged leaders laid laid.bounds.frames)
      (section_total files) 0 d e (λ n low high. choice n)
      (λ j k x y lt below one two. sections_apart files j k x y lt (omega (arith, below)) one two) first second

  -- the same of a plan and lists that are these
  module _ (lists_now : List RecordList) (are : lists_now ≡ all_lists files) (p : PlanView) (planned : p ≡ plan_is) where
    frames_are : frame_defects files b leaders laid lists_now p laid.bounds.frames ≡ frame_defects files b leaders laid (all_lists files) plan_is laid.bounds.frames
    frames_are =
        ap (λ l. frame_defects files b leaders laid l p laid.bounds.frames) are
        ∙ ap (λ q. frame_defects files b leaders laid (all_lists files) q laid.bounds.frames) planned

    values_are : value_defects files b leaders laid p ≡ value_defects files b leaders laid plan_is
    values_are = ap (value_defects files b leaders laid) planned

    pub relocations_left : frame_defects files b leaders laid lists_now p laid.bounds.frames ≡ [] →
        value_defects files b leaders laid p ≡ relocation_defects files b leaders laid
    relocations_left none = values_are ∙ sections_left (sym frames_are ∙ none)

    pub frames_left : (stop : LinkStop) → relocation_defects files b leaders laid ≡ [] → StopsAt stop (frame_defects files b leaders laid lists_now p laid.bounds.frames) →
        StopsAt stop (value_defects files b leaders laid p)
    frames_left stop none at =
        let P : List Defect → Type 0 = λ ds. StopsAt stop ds in
        subst P (sym (values_are ∙ records_left none ∙ sym frames_are)) at

    pub first_left : (found stop : LinkStop) → StopsAt found (relocation_defects files b leaders laid) →
        StopsAt stop (frame_defects files b leaders laid lists_now p laid.bounds.frames) → StopsAt (earlier_stop found stop) (value_defects files b leaders laid p)
    first_left stops.Memory stop first second = tt
    first_left (stops.Defect d) stops.Memory first second = tt
    first_left (stops.Defect d) (stops.Defect e) first second =
        let P : List Defect → Type 0 = λ ds. BeginsWith ds e in
        let Q : List Defect → Type 0 = λ ds. BeginsWith ds (earlier d e) in
        subst Q (sym values_are) (both_first d e first (subst P frames_are second))
