-- How many bytes the records of a plan have at most: the records of a section begin each where the one before ends, so that together they have no
-- more bytes than their section; and no record is written twice.
use Rattle.std.proofs.Common.{◌≡◌, ℕ, zero, suc, ◌+◌, ◌*◌, ◌^◌, ◌<◌, ◌≤◌, ◌⊎◌, ◌==◌, ◌&&◌, ◌||◌, nat_lt, not, Bool, true, false, cond, List, [], ◌∷◌, ◌++◌, length, map, flat_map, find, get_or, Contains, refl, sym, ap, ◌∙◌, subst, arith, Option, Some, None, inl, inr, ⊎_elim, ltb-true}
use Rattle.std.specs.Prelude.{if◌then◌else◌, is_some, slice_index_or}
use Rattle.std.specs.List.{All, AllPairs, filter, range_with_len, sum_by}
use Rattle.std.specs.List.Sorted.{IsStrictlyIncreasing}
use Rattle.std.proofs.lemmas.Bool.{and_from, and_parts, cases_lt, eq-eqb, eqb-true, or_cases}
use Rattle.std.proofs.lemmas.List.{get_or_default, get_or_past, length-map}
use Rattle.std.proofs.lemmas.List.Elements.{All-cons, All-filter, All-head, All-map, All-nil, All-tail, All-weaker, Contains-append_left, Contains-append_right, filter_passes}
use Rattle.std.proofs.lemmas.List.FromFn.{get_or-map-range_with_len, length-map-range_with_len}
use Rattle.std.proofs.lemmas.List.Kept.{AllPairs-filter, AllPairs-from_increasing}
use Rattle.std.proofs.lemmas.List.Sums.{sum_by-append, sum_by-cons}
use Rattle.lk_base.proofs.Membership.{head_or_tail, in_map, in_range}
use Rattle.lk_tables.specs.declared.objects.Reloc.{Reloc}
use Rattle.lk_tables.specs.declared.records.FrameNo.{FrameNo}
use Rattle.lk_tables.specs.Binding.{Bindings}
use Rattle.lk_tables.specs.Files.{File, file_at, is_frame_at, relocs_at, section_at, section_no, section_total}
use Rattle.lk_tables.specs.FramePlans.{PlanView}
use Rattle.lk_tables.specs.Frames.{AreListsWithin, IsListWithin, IsRecordWithin, RecordList, all_lists, frame_no, list_at, no_record, nth, record_at}
use Rattle.lk_tables.specs.Records.{RecordView, count, first_records, len_at, start_of, record_of as read_record, records_of}
use Rattle.lk_tables.specs.Sections.{contents_of}
use Rattle.lk_tables.specs.Sites.{contents_at}
use Rattle.lk_tables.specs.Walks.{over_file, over_live}
use Rattle.link_sections.specs.PoolViews.{Merged}
use Rattle.eh_frame.specs.declared.planning.Uses.{Uses}
use Rattle.eh_frame.specs.Bytes.{IsKnown}
use Rattle.eh_frame.specs.Laws.{IsPlanned, IsSmall, comes_before}
use Rattle.eh_frame.specs.Plan.{cie_key, cie_no, frame_len_of, header_len_of, plan_of, record_by, size_of, written_cies, written_fdes}
use Rattle.eh_frame.specs.Uses.{AreUses}
use Rattle.eh_frame.proofs.KnownRecords.{all_flat, plan_cies_known, plan_fdes_known}
use Rattle.eh_frame.proofs.ListsFound.{record_found, record_is}
use Rattle.eh_frame.proofs.Places.{place_next}
use Rattle.eh_frame.proofs.PlanLaws.{first_pairs, plan_laws, rest_pairs}

-- numbers of which no two are the same
abbrev Differ : FrameNo → FrameNo → Type 0
Differ x y = x ≡ y → ⊥

abbrev AreDistinct : List FrameNo → Type 0
AreDistinct xs = AllPairs Differ xs

abbrev same : FrameNo → FrameNo → Bool
same u x = u.section == x.section && u.at == x.at

abbrev other : FrameNo → FrameNo → Bool
other u x = not (same u x)

same_is : (u x : FrameNo) → same u x ≡ true → u ≡ x
same_is u x e =
    let p = and_parts (u.section == x.section) (u.at == x.at) e in
    ap (λ s. frame_no s u.at) (eqb-true u.section x.section p.0) ∙ ap (frame_no x.section) (eqb-true u.at x.at p.1)

same_own : (u : FrameNo) → same u u ≡ true
same_own u = and_from (u.section == u.section) (u.at == u.at) (eq-eqb u.section u.section refl) (eq-eqb u.at u.at refl)

not_other : (u x : FrameNo) → u ≡ x → other u x ≡ true → ⊥
not_other u x is passes =
    let own : other u u ≡ true = subst (λ (y : FrameNo). other u y ≡ true) (sym is) passes in
    let gone : other u u ≡ false = ap not (same_own u) in
    let bad : true ≡ false = sym own ∙ gone in
    absurd cc

-- all but one of them
kept_all : (u : FrameNo) (xs : List FrameNo) → All (Differ u) xs → filter (other u) xs ≡ xs
kept_all u [] all = refl
kept_all u (x ∷ xs) all = by (same u x) refl (kept_all u xs (All-tail (Differ u) x xs all))
  where
    by : (t : Bool) → same u x ≡ t → filter (other u) xs ≡ xs → cond (not t) (x ∷ filter (other u) xs) (filter (other u) xs) ≡ x ∷ xs
    by true e rest = absurd (All-head (Differ u) x xs all (same_is u x e))
    by false e rest = ap (λ l. x ∷ l) rest

drop_one : (f : FrameNo → ℕ) (u : FrameNo) (xs : List FrameNo) → AreDistinct xs → sum_by f xs ≤ f u + sum_by f (filter (other u) xs)
drop_one f u [] apart = let none : sum_by f [] ≡ 0 = refl in omega (arith, none)
drop_one f u (x ∷ xs) apart = by (same u x) refl (drop_one f u xs (rest_pairs Differ x xs apart))
  where
    by : (t : Bool) → same u x ≡ t → sum_by f xs ≤ f u + sum_by f (filter (other u) xs) → sum_by f (x ∷ xs) ≤ f u + sum_by f (cond (not t) (x ∷ filter (other u) xs) (filter (other u) xs))
    by true e later =
        let is : u ≡ x = same_is u x e in
        let P : FrameNo → Type 0 = λ y. All (Differ y) xs in
        let rest : filter (other u) xs ≡ xs = kept_all u xs (subst P (sym is) (first_pairs Differ x xs apart)) in
        omega (arith, sum_by-cons f x xs, ap f is, ap (sum_by f) rest)
    by false e later = omega (arith, sum_by-cons f x xs, sum_by-cons f x (filter (other u) xs), later)

no_member : (x : FrameNo) → Contains [] x → ⊥
no_member x (k, lt, is) = absurd (omega (arith, lt))

in_rest : (u : FrameNo) (us : List FrameNo) (x : FrameNo) → Contains (u ∷ us) x → other u x ≡ true → Contains us x
in_rest u us x has passes = ⊎_elim
    (λ (here : u ≡ x). absurd (not_other u x here passes))
    (λ (later : Contains us x). later)
    (head_or_tail u x us has)

-- numbers that differ, all of one list, have no more bytes than all of it
fits : (f : FrameNo → ℕ) (us xs : List FrameNo) → AreDistinct xs → All (Contains us) xs → sum_by f xs ≤ sum_by f us
fits f [] [] apart all = omega arith
fits f [] (x ∷ xs) apart all = absurd (no_member x (All-head (Contains []) x xs all))
fits f (u ∷ us) xs apart all =
    let left = filter (other u) xs in
    let own : AreDistinct left = AllPairs-filter Differ (other u) xs apart in
    let within : All (Contains (u ∷ us)) left = All-filter (other u) (Contains (u ∷ us)) xs all in
    let passes : All (λ x. other u x ≡ true) left = filter_passes (other u) xs in
    let each : All (Contains us) left = λ k z lt. in_rest u us (get_or left k z) (within k z lt) (passes k z lt) in
    omega (arith, drop_one f u xs apart, fits f us left own each, sum_by-cons f u us)

-- the numbers of the records of a list, and of all
abbrev numbers_of : RecordList → List FrameNo
numbers_of l = map (frame_no l.section) (range_with_len 0 (length l.records))

abbrev all_numbers : List RecordList → List FrameNo
all_numbers lists = flat_map numbers_of lists

some_below : (rs : List RecordView) (at : ℕ) → is_some (slice_index_or (map Some rs) at None) ≡ true → at < length rs
some_below rs at some = elim (cases_lt at (length rs)) [
  | inl lt ↦ lt
  | inr le ↦
      let past : get_or (map Some rs) at None ≡ None = get_or_past (map Some rs) at None (omega (arith, le, length-map rs (λ (r : RecordView). Some r))) in
      let bad : true ≡ false = sym some ∙ ap is_some past in
      absurd cc
]

in_own : (l : RecordList) (x : FrameNo) → l.section ≡ x.section → x.at < length l.records → Contains (numbers_of l) x
in_own l x is lt =
    let C : FrameNo → Type 0 = Contains (numbers_of l) in
    subst C (ap (λ s. frame_no s x.at) is) (in_map (frame_no l.section) (range_with_len 0 (length l.records)) x.at (in_range (length l.records) x.at lt))

in_all : (lists : List RecordList) (x : FrameNo) → is_some (record_at lists x) ≡ true → Contains (all_numbers lists) x
unfolding record_at
in_all [] x some = absurd cc
in_all (l ∷ ls) x some = by (l.section == x.section) refl (in_all ls x) some
  where
    by : (t : Bool) → (l.section == x.section) ≡ t → (is_some (record_at ls x) ≡ true → Contains (all_numbers ls) x) → is_some (nth x.at (cond t (Some l) (find (λ (m : RecordList). m.section == x.section) ls))) ≡ true →
        Contains (numbers_of l ++ all_numbers ls) x
    by true is rest there = Contains-append_left (numbers_of l) (all_numbers ls) x (in_own l x (eqb-true l.section x.section is) (some_below l.records x.at there))
    by false is rest there = Contains-append_right (numbers_of l) (all_numbers ls) x (rest there)

-- each of the lists of the files is read from bytes
pub record IsRead (l : RecordList) : Type 0 where
  pub bytes : List ℕ
  pub relocs : List Reloc
  pub records : l.records ≡ records_of bytes relocs

all_if : {X : Type 0} (P : X → Type 0) (t : Bool) (xs : List X) → All P xs → All P (if t then xs else [])
all_if P true xs all = all
all_if P false xs all = All-nil P

module _ (files : List File) where
  index_read : (f k : ℕ) → All IsRead (list_at files f k)
  index_read f k =
      let file = file_at files f in
      let c = contents_of file.bytes (section_at file k) in
      let l : RecordList = record { section = section_no files f k; records = records_of c (relocs_at file k) } in
      all_if IsRead (is_frame_at file k) (l ∷ []) (All-cons IsRead l [] (record { bytes = c; relocs = relocs_at file k; records = refl }) (All-nil IsRead))

  file_read : (f : ℕ) → All IsRead (over_file files (list_at files) f)
  unfolding over_file
  file_read f =
      let indexes = range_with_len 0 (length (file_at files f).head.sections) in
      all_if IsRead (file_at files f).live (flat_map (list_at files f) indexes) (all_flat IsRead (list_at files f) indexes (λ k d lt. index_read f (get_or indexes k d)))

  pub lists_read : All IsRead (all_lists files)
  unfolding all_lists over_live
  lists_read = all_flat IsRead (over_file files (list_at files)) (range_with_len 0 (length files)) (λ k d lt. file_read (get_or (range_with_len 0 (length files)) k d))

-- bytes of records that begin each where the one before ends
sum_at : (f : FrameNo → ℕ) (s : ℕ) (c : List ℕ) (n i : ℕ) → ((j : ℕ) → i ≤ j → j < i + n → f (frame_no s j) ≡ 4 + len_at c (start_of c j)) →
    sum_by f (map (frame_no s) (range_with_len i n)) + start_of c i ≡ start_of c (i + n)
sum_at f s c zero i each =
    let e : i + 0 ≡ i = omega arith in
    let at : start_of c (i + 0) ≡ start_of c i = ap (start_of c) e in
    let none : sum_by f [] ≡ 0 = refl in
    omega (arith, at, none)
sum_at f s c (suc n) i each =
    let own = each i (omega arith) (omega arith) in
    let next = place_next c i in
    let rest = sum_at f s c n (i + 1) (λ j low high. each j (omega (arith, low)) (omega (arith, high))) in
    let e : i + 1 + n ≡ i + suc n = omega arith in
    let end : start_of c (i + 1 + n) ≡ start_of c (i + suc n) = ap (start_of c) e in
    omega (arith, own, next, rest, end, sum_by-cons f (frame_no s i) (map (frame_no s) (range_with_len (i + 1) n)))

last_within : (c : List ℕ) (n size : ℕ) → ((j : ℕ) → j < n → start_of c j + 4 + len_at c (start_of c j) ≤ size) → start_of c n ≤ size
unfolding start_of
last_within c zero size each = omega arith
last_within c (suc n) size each = let own = each n (omega arith) in omega (arith, own)

first_place : (c : List ℕ) → start_of c 0 ≡ 0
unfolding start_of
first_place c = refl

-- lists with as many sections
at_least : (xs : List ℕ) → AllPairs (λ (x y : ℕ). x < y) xs → (k d : ℕ) → k < length xs → k ≤ get_or xs k d
at_least xs up zero d lt = omega arith
at_least xs up (suc k) d lt = omega (arith, at_least xs up k d (omega (arith, lt)), up k (suc k) d (omega arith) lt)

few_below : (xs : List ℕ) (n : ℕ) → IsStrictlyIncreasing xs → All (λ x. x < n) xs → length xs ≤ n
few_below [] n up below = omega arith
few_below (x ∷ xs) n up below =
    let last = at_least (x ∷ xs) (AllPairs-from_increasing (x ∷ xs) up) (length xs) 0 (omega arith) in
    omega (arith, last, below (length xs) 0 (omega arith))

flat_most : (f : FrameNo → ℕ) (g : RecordList → List FrameNo) (ls : List RecordList) → All (λ l. sum_by f (g l) ≤ 2 ^ 31) ls → sum_by f (flat_map g ls) ≤ 2 ^ 31 * length ls
flat_most f g [] all = let none : sum_by f [] ≡ 0 = refl in omega (arith, none)
flat_most f g (l ∷ ls) all =
    let own : sum_by f (g l) ≤ 2 ^ 31 = All-head (λ m. sum_by f (g m) ≤ 2 ^ 31) l ls all in
    let rest = flat_most f g ls (All-tail (λ m. sum_by f (g m) ≤ 2 ^ 31) l ls all) in
    omega (arith, own, rest, sum_by-append f (g l) (flat_map g ls))

count_least : (f : FrameNo → ℕ) (xs : List FrameNo) → All (λ x. 8 ≤ f x) xs → 8 * length xs ≤ sum_by f xs
count_least f [] all = omega arith
count_least f (x ∷ xs) all =
    let own : 8 ≤ f x = All-head (λ y. 8 ≤ f y) x xs all in
    omega (arith, own, count_least f xs (All-tail (λ y. 8 ≤ f y) x xs all), sum_by-cons f x xs)

not_before : (x : FrameNo) → comes_before x x ≡ true → ⊥
not_before x e = elim (or_cases (nat_lt x.section x.section) (x.section == x.section && nat_lt x.at x.at) e) [
  | inl less ↦ let bad = ltb-true x.section x.section less in absurd (omega (arith, bad))
  | inr later ↦ let bad = ltb-true x.at x.at (and_parts (x.section == x.section) (nat_lt x.at x.at) later).1 in absurd (omega (arith, bad))
]

before_differs : (x y : FrameNo) → comes_before x y ≡ true → x ≡ y → ⊥
before_differs x y before is = not_before x (subst (λ (z : FrameNo). comes_before x z ≡ true) (sym is) before)

module _ (files : List File) (lists : List RecordList) (within : AreListsWithin files lists) (few : section_total files ≤ 2 ^ 28) (read : All IsRead lists) (b : Bindings) (merged : List (Option Merged)) (leaders : List (Option ℕ)) where
  -- a record that is read from bytes
  record_read : (l : RecordList) (is : IsRead l) (j : ℕ) → j < length l.records →
      ((get_or l.records j no_record).from ≡ start_of is.bytes j) × ((get_or l.records j no_record).len ≡ len_at is.bytes (start_of is.bytes j))
  unfolding first_records read_record
  record_read l is j lt =
      let c = is.bytes in
      let give = read_record c is.relocs in
      let many : length l.records ≡ count c = ap length is.records ∙ length-map-range_with_len give 0 (count c) in
      let at : get_or l.records j no_record ≡ give j = ap (λ rs. get_or rs j no_record) is.records ∙ get_or-map-range_with_len give 0 (count c) j j no_record (omega (arith, lt, many)) (omega arith) in
      (ap (λ (r : RecordView). r.from) at, ap (λ (r : RecordView). r.len) at)

  -- the records of a section have no more bytes than it has
  list_most : (k : ℕ) (l : RecordList) → k < length lists → l ≡ get_or lists k l → IsRead l → sum_by (size_of lists) (numbers_of l) ≤ 2 ^ 31
  list_most k l lt at is =
      let c = is.bytes in
      let n = length l.records in
      let P : RecordList → Type 0 = IsListWithin files in
      let own : IsListWithin files l = subst P (sym at) (within.within k l lt) in
      let size : (j : ℕ) → j < n → size_of lists (frame_no l.section j) ≡ 4 + len_at c (start_of c j) = λ j less.
      let found = record_found lists k l j no_record within.order lt at less in
      let len = ap (λ (r : RecordView). r.len) (record_is lists (frame_no l.section j) (get_or l.records j no_record) found) in
      omega (arith, len, (record_read l is j less).1) in
      let inside : (j : ℕ) → j < n → start_of c j + 4 + len_at c (start_of c j) ≤ length (contents_at files l.section) = λ j less.
      let parts = record_read l is j less in
      omega (arith, (own.records j no_record less).bytes, parts.0, parts.1) in
      let sum = sum_at (size_of lists) l.section c n 0 (λ j low high. size j (omega (arith, high))) in
      let e : 0 + n ≡ n = omega arith in
      let end : start_of c (0 + n) ≡ start_of c n = ap (start_of c) e in
      omega (arith, sum, end, first_place c, last_within c n (length (contents_at files l.section)) inside, own.short)

  lists_few : length lists ≤ section_total files
  lists_few =
      let section : RecordList → ℕ = λ (l : RecordList). l.section in
      let below = All-map (λ n. n < section_total files) section lists (All-weaker (IsListWithin files) (λ (l : RecordList). l.section < section_total files) (λ l is. is.section) lists within.within) in
      omega (arith, few_below (map section lists) (section_total files) within.order below, length-map lists section)

  -- nor have numbers that differ more than all sections
  numbers_most : (xs : List FrameNo) → AreDistinct xs → All (IsKnown files lists) xs → sum_by (size_of lists) xs ≤ 2 ^ 59
  numbers_most xs apart known =
      let each : All (λ l. sum_by (size_of lists) (numbers_of l) ≤ 2 ^ 31) lists = λ k d lt.
      list_most k (get_or lists k d) lt (get_or_default lists k d (get_or lists k d) lt) (read k d lt) in
      let all = flat_most (size_of lists) numbers_of lists each in
      let has : All (Contains (all_numbers lists)) xs = All-weaker (IsKnown files lists) (Contains (all_numbers lists)) (λ x is. in_all lists x is.there) xs known in
      omega (arith, fits (size_of lists) (all_numbers lists) xs apart has, all, lists_few, few)

  abbrev plan : PlanView
  plan = plan_of files b merged lists leaders

  plan_is : IsPlanned files b merged lists leaders plan
  plan_is = plan_laws files b merged lists leaders within.order

  fdes_most : sum_by (size_of lists) plan.fdes ≤ 2 ^ 59
  fdes_most =
      let differ : AreDistinct plan.fdes = λ i j d lt high. before_differs (get_or plan.fdes i d) (get_or plan.fdes j d) (plan_is.order i j d lt high) in
      numbers_most plan.fdes differ (plan_fdes_known files lists b merged leaders plan within refl)

  cies_most : sum_by (size_of lists) plan.cies ≤ 2 ^ 59
  cies_most =
      let differ : AreDistinct plan.cies = λ i j d lt high e. plan_is.apart i j d lt high (ap (cie_key files b merged lists) e) in
      numbers_most plan.cies differ (plan_cies_known files lists b merged leaders plan within refl)

  fdes_count : 8 * length plan.fdes ≤ sum_by (size_of lists) plan.fdes
  fdes_count =
      let known = plan_fdes_known files lists b merged leaders plan within refl in
      count_least (size_of lists) plan.fdes (All-weaker (IsKnown files lists) (λ x. 8 ≤ size_of lists x) (λ x is. let least = is.within.least in omega (arith, least)) plan.fdes known)

  -- of what was found
  pub found_cies : (found : Uses) → AreUses (cie_key files b merged lists) (cie_no lists) (written_fdes files b merged lists leaders) found →
      sum_by (size_of lists) found.firsts.cies.items ≤ 2 ^ 59
  unfolding plan_of written_cies
  found_cies found are =
      let e : found.firsts.cies.items ≡ plan.cies = are.held.cies_are in
      let same_sum : sum_by (size_of lists) found.firsts.cies.items ≡ sum_by (size_of lists) plan.cies = ap (sum_by (size_of lists)) e in
      omega (arith, cies_most, same_sum)

  pub found_fdes : (found : Uses) → AreUses (cie_key files b merged lists) (cie_no lists) (written_fdes files b merged lists leaders) found →
      sum_by (size_of lists) found.fdes.items ≤ 2 ^ 59
  unfolding plan_of
  found_fdes found are =
      let e : found.fdes.items ≡ plan.fdes = are.fdes_are in
      let same_sum : sum_by (size_of lists) found.fdes.items ≡ sum_by (size_of lists) plan.fdes = ap (sum_by (size_of lists)) e in
      omega (arith, fdes_most, same_sum)

  pub found_count : (found : Uses) → AreUses (cie_key files b merged lists) (cie_no lists) (written_fdes files b merged lists leaders) found →
      8 * length found.fdes.items ≤ 2 ^ 59
  unfolding plan_of
  found_count found are =
      let e : found.fdes.items ≡ plan.fdes = are.fdes_are in
      let count : length found.fdes.items ≡ length plan.fdes = ap length e in
      omega (arith, fdes_most, fdes_count, count)

  -- how long both are
  frame_most : (fdes cies : List FrameNo) → sum_by (size_of lists) fdes ≤ 2 ^ 59 → sum_by (size_of lists) cies ≤ 2 ^ 59 → frame_len_of lists fdes cies ≤ 2 ^ 60 + 4
  frame_most [] cies one two = omega arith
  frame_most (fde ∷ fdes) cies one two = omega (arith, one, two)

  header_most : (fdes : List FrameNo) → 8 * length fdes ≤ 2 ^ 59 → header_len_of fdes ≤ 2 ^ 59 + 12
  header_most [] many = omega arith
  header_most (fde ∷ fdes) many = omega (arith, many)

  pub plan_small : IsSmall plan
  unfolding plan_of
  plan_small = record {
    header = header_most plan.fdes (omega (arith, fdes_most, fdes_count));
    frame = frame_most plan.fdes plan.cies fdes_most cies_most;
  }
