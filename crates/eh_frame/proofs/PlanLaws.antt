-- A plan writes each FDE of a section whose own bytes are written, once, and no other, with a CIE that is equal to its own.
use Rattle.std.proofs.Common.{◌≡◌, ℕ, suc, ◌<◌, ◌==◌, ◌&&◌, nat_lt, Bool, true, false, cond, List, [], ◌∷◌, ◌++◌, length, map, flat_map, get_or, Contains, Option, Some, None, refl, sym, ap, ◌∙◌, subst, arith}
use Rattle.std.specs.List.{All, AllPairs, filter, range_with_len}
use Rattle.std.proofs.lemmas.Bool.{and_from, eq-eqb, eqb-true, lt-ltb, or_left, or_right}
use Rattle.std.proofs.lemmas.List.{get_or-map, length-map}
use Rattle.std.proofs.lemmas.List.Elements.{All-append, All-contains, All-contains_itself, All-weaker, filter_passes}
use Rattle.std.proofs.lemmas.List.FromFn.{get_or-range_with_len, length-range_with_len}
use Rattle.std.proofs.lemmas.List.Kept.{AllPairs-cons, AllPairs-filter, AllPairs-from_increasing}
use Rattle.std.proofs.lemmas.List.Sums.{passes_at_first}
use Rattle.lk_base.proofs.Membership.{from_filter, from_flat, from_map, from_range, in_filter, in_flat, in_map, in_range}
use Rattle.lk_tables.specs.declared.records.FrameNo.{FrameNo}
use Rattle.lk_tables.specs.Binding.{Bindings}
use Rattle.lk_tables.specs.Files.{File}
use Rattle.lk_tables.specs.Frames.{AreInOrder, RecordList, frame_no, frames_at, frames_where, is_number, owner_at}
use Rattle.lk_tables.specs.Targets.{is_gone}
use Rattle.lk_tables.proofs.SoundGroups.{pairs_map}
use Rattle.link_sections.specs.PoolViews.{Merged}
use Rattle.eh_frame.specs.Laws.{IsInPlace, IsPlanned, comes_before}
use Rattle.eh_frame.specs.Plan.{CieKey, cie_key, cie_no, is_alike, is_in_place, is_owner_in_place, plan_of, use_of, written_cies, written_fdes}
use Rattle.eh_frame.specs.Uses.{cies_for}
use Rattle.eh_frame.proofs.CieKeys.{cie_Decides}
use Rattle.eh_frame.proofs.FirstCies.{each_first, first_apart, found_first}
use Rattle.eh_frame.proofs.NotedCies.{each_known}

-- pairs of a list and of another after it
pub first_pairs : {X : Type 0} (R : X → X → Type 0) (x : X) (xs : List X) → AllPairs R (x ∷ xs) → All (R x) xs
first_pairs R x xs all = λ k d lt. all 0 (suc k) d (omega arith) (omega (arith, lt))

pub rest_pairs : {X : Type 0} (R : X → X → Type 0) (x : X) (xs : List X) → AllPairs R (x ∷ xs) → AllPairs R xs
rest_pairs R x xs all = λ i j d lt high. all (suc i) (suc j) d (omega (arith, lt)) (omega (arith, high))

pairs_append : {X : Type 0} (R : X → X → Type 0) (xs ys : List X) → AllPairs R xs → AllPairs R ys → All (λ x. All (R x) ys) xs → AllPairs R (xs ++ ys)
pairs_append R [] ys own other both = other
pairs_append R (x ∷ xs) ys own other both =
    AllPairs-cons R x (xs ++ ys) (All-append (R x) xs ys (first_pairs R x xs own) (both 0 x (omega arith)))
    (pairs_append R xs ys (rest_pairs R x xs own) other (λ k d lt. both (suc k) d (omega (arith, lt))))

all_of : {X : Type 0} (P : X → Type 0) (xs : List X) → ((x : X) → Contains xs x → P x) → All P xs
all_of P xs each = All-weaker (Contains xs) P each xs (All-contains_itself xs)

-- what it is to be among the FDEs of a list
record IsFrameOf (files : List File) (b : Bindings) (test : Option ℕ → Bool) (l : RecordList) (fde : FrameNo) : Type 0 where
  at : ℕ
  below : at < length l.records
  is : frame_no l.section at ≡ fde
  stays : is_gone b l.section ≡ false
  passes : test (owner_at files b l at) ≡ true

not_gone : (t : Bool) (xs : List FrameNo) (fde : FrameNo) → Contains (cond t [] xs) fde → (t ≡ false) × Contains xs fde
not_gone true xs fde (k, lt, is) = absurd (omega (arith, lt))
not_gone false xs fde has = (refl, has)

module _ (files : List File) (b : Bindings) where
  frame_of : (test : Option ℕ → Bool) (l : RecordList) (fde : FrameNo) → Contains (frames_where files b test l) fde → IsFrameOf files b test l fde
  unfolding frames_where
  frame_of test l fde has =
      let p : ℕ → Bool = λ at. test (owner_at files b l at) in
      let all = range_with_len 0 (length l.records) in
      let both = not_gone (is_gone b l.section) (map (frame_no l.section) (filter p all)) fde has in
      let from = from_map (frame_no l.section) (filter p all) fde both.1 in
      record {
        at = from.x;
        below = from_range (length l.records) from.x (from_filter p all from.x from.listed);
        is = from.is;
        stays = both.0;
        passes = All-contains (λ k. p k ≡ true) (filter p all) from.x (filter_passes p all) from.listed;
      }

  has_frame : (test : Option ℕ → Bool) (l : RecordList) (fde : FrameNo) → IsFrameOf files b test l fde → Contains (frames_where files b test l) fde
  unfolding frames_where
  has_frame test l fde f =
      let p : ℕ → Bool = λ at. test (owner_at files b l at) in
      let all = range_with_len 0 (length l.records) in
      let frames = map (frame_no l.section) (filter p all) in
      let C : FrameNo → Type 0 = Contains frames in
      let P : Bool → Type 0 = λ t. Contains (cond t [] frames) fde in
      subst P (sym f.stays)
      (subst C f.is (in_map (frame_no l.section) (filter p all) f.at (in_filter p all f.at (in_range (length l.records) f.at f.below) f.passes)))

  abbrev InOrder : FrameNo → FrameNo → Type 0
  InOrder first second = comes_before first second ≡ true

  within_list : (section i j : ℕ) → i < j → InOrder (frame_no section i) (frame_no section j)
  within_list section i j lt =
      or_right (nat_lt section section) (section == section && nat_lt i j) (and_from (section == section) (nat_lt i j) (eq-eqb section section refl) (lt-ltb i j lt))

  range_pairs : (section n : ℕ) → AllPairs (λ i j. InOrder (frame_no section i) (frame_no section j)) (range_with_len 0 n)
  range_pairs section n = λ i j d lt high.
      let less : j < n = omega (arith, high, length-range_with_len 0 n) in
      let one = get_or-range_with_len 0 n i d (omega (arith, lt, less)) in
      let two = get_or-range_with_len 0 n j d less in
      within_list section (get_or (range_with_len 0 n) i d) (get_or (range_with_len 0 n) j d) (omega (arith, one, two, lt))

  pairs_gone : (t : Bool) (xs : List FrameNo) → AllPairs InOrder xs → AllPairs InOrder (cond t [] xs)
  pairs_gone true xs all = λ i j d lt high. absurd (omega (arith, high))
  pairs_gone false xs all = all

  list_order : (test : Option ℕ → Bool) (l : RecordList) → AllPairs InOrder (frames_where files b test l)
  unfolding frames_where
  list_order test l =
      let p : ℕ → Bool = λ at. test (owner_at files b l at) in
      let all = range_with_len 0 (length l.records) in
      pairs_gone (is_gone b l.section) (map (frame_no l.section) (filter p all))
      (pairs_map InOrder (frame_no l.section) (filter p all)
      (AllPairs-filter (λ i j. InOrder (frame_no l.section i) (frame_no l.section j)) p all (range_pairs l.section (length l.records))))

  abbrev Below : RecordList → RecordList → Type 0
  Below l m = l.section < m.section

  lists_order : (test : Option ℕ → Bool) (lists : List RecordList) → AllPairs Below lists → AllPairs InOrder (flat_map (frames_where files b test) lists)
  lists_order test [] order = λ i j d lt high. absurd (omega (arith, high))
  lists_order test (l ∷ lists) order =
      let g = frames_where files b test in
      let later = first_pairs Below l lists order in
      pairs_append InOrder (g l) (flat_map g lists) (list_order test l) (lists_order test lists (rest_pairs Below l lists order))
      (all_of (λ (x : FrameNo). All (InOrder x) (flat_map g lists)) (g l) (λ x own. all_of (InOrder x) (flat_map g lists) (λ y other.
      let first : l.section ≡ x.section = ap (λ (f : FrameNo). f.section) (frame_of test l x own).is in
      let part = from_flat g lists y other in
      let second : part.x.section ≡ y.section = ap (λ (f : FrameNo). f.section) (frame_of test part.x y part.part).is in
      let below : l.section < part.x.section = All-contains (Below l) lists part.x later part.listed in
      or_left (nat_lt x.section y.section) (x.section == y.section && nat_lt x.at y.at) (lt-ltb x.section y.section (omega (arith, first, second, below))))))

  lists_below : (lists : List RecordList) → AreInOrder lists → AllPairs Below lists
  lists_below lists order = λ i j d lt high.
      let section : RecordList → ℕ = λ l. l.section in
      let many = length-map lists section in
      let rises = AllPairs-from_increasing (map section lists) order i j 0 lt (omega (arith, high, many)) in
      let one = get_or-map section lists i d 0 (omega (arith, lt, high)) in
      let two = get_or-map section lists j d 0 high in
      omega (arith, rises, one, two)

  number_led : (leaders : List (Option ℕ)) (merged : List (Option Merged)) (o : Option ℕ) (a : ℕ) → is_number o a ≡ true → is_in_place leaders merged a ≡ true → is_owner_in_place leaders merged o ≡ true
  number_led leaders merged None a is led = absurd cc
  number_led leaders merged (Some m) a is led =
      let P : ℕ → Type 0 = λ k. is_in_place leaders merged k ≡ true in
      subst P (sym (eqb-true m a is)) led

  led_owner : (leaders : List (Option ℕ)) (merged : List (Option Merged)) (o : Option ℕ) → is_owner_in_place leaders merged o ≡ true → (a : ℕ) × (o ≡ Some a) × (is_in_place leaders merged a ≡ true)
  led_owner leaders merged None led = absurd cc
  led_owner leaders merged (Some a) led = (a, refl, led)

  each_led : (merged : List (Option Merged)) (lists : List RecordList) (leaders : List (Option ℕ)) (fde : FrameNo) → IsInPlace files b merged lists leaders fde → Contains (written_fdes files b merged lists leaders) fde
  unfolding frames_at written_fdes
  each_led merged lists leaders fde own =
      let a = own.section in
      let test : Option ℕ → Bool = λ owner. is_number owner a in
      let part = from_flat (frames_where files b test) lists fde own.listed in
      let f = frame_of test part.x fde part.part in
      in_flat (frames_where files b (is_owner_in_place leaders merged)) lists part.x fde part.listed
      (has_frame (is_owner_in_place leaders merged) part.x fde
      (record { at = f.at; below = f.below; is = f.is; stays = f.stays; passes = number_led leaders merged (owner_at files b part.x f.at) a f.passes own.in_place }))

  led_only : (merged : List (Option Merged)) (lists : List RecordList) (leaders : List (Option ℕ)) (fde : FrameNo) → Contains (written_fdes files b merged lists leaders) fde → IsInPlace files b merged lists leaders fde
  unfolding frames_at written_fdes
  led_only merged lists leaders fde has =
      let part = from_flat (frames_where files b (is_owner_in_place leaders merged)) lists fde has in
      let f = frame_of (is_owner_in_place leaders merged) part.x fde part.part in
      let owner = led_owner leaders merged (owner_at files b part.x f.at) f.passes in
      let a = owner.0 in
      let test : Option ℕ → Bool = λ o. is_number o a in
      record {
        section = a;
        in_place = owner.2;
        listed = in_flat (frames_where files b test) lists part.x fde part.listed
            (has_frame test part.x fde
            (record { at = f.at; below = f.below; is = f.is; stays = f.stays; passes = ap test owner.1 ∙ eq-eqb a a refl }));
      }

  fdes_order : (merged : List (Option Merged)) (lists : List RecordList) (leaders : List (Option ℕ)) → AreInOrder lists → AllPairs InOrder (written_fdes files b merged lists leaders)
  unfolding written_fdes
  fdes_order merged lists leaders order = lists_order (is_owner_in_place leaders merged) lists (lists_below lists order)

module _ (files : List File) (b : Bindings) (merged : List (Option Merged)) (lists : List RecordList) where
  abbrev key : FrameNo → CieKey
  key = cie_key files b merged lists

  abbrev own_cie : FrameNo → FrameNo
  own_cie = cie_no lists

  one_use : (fdes : List FrameNo) (k : ℕ) → k < length fdes →
      (use_of key (cies_for key own_cie fdes) (own_cie (get_or fdes k (frame_no 0 0))) < length (cies_for key own_cie fdes))
      × (key (get_or (cies_for key own_cie fdes) (use_of key (cies_for key own_cie fdes) (own_cie (get_or fdes k (frame_no 0 0)))) (frame_no 0 0)) ≡ key (own_cie (get_or fdes k (frame_no 0 0))))
  one_use fdes k lt =
      let cies = cies_for key own_cie fdes in
      let own = own_cie (get_or fdes k (frame_no 0 0)) in
      let p = is_alike key own in
      let low = found_first p cies (each_known key own_cie fdes k lt) in
      let passes = passes_at_first p cies (frame_no 0 0) low in
      (low, (cie_Decides (key (get_or cies (use_of key cies own) (frame_no 0 0))) (key own)).0 passes)

  -- the number of each FDE's CIE, as it stands in the list
  used_at : (fdes : List FrameNo) (k : ℕ) → k < length fdes →
      get_or (map (λ (fde : FrameNo). use_of key (cies_for key own_cie fdes) (own_cie fde)) fdes) k 0 ≡ use_of key (cies_for key own_cie fdes) (get_or (map own_cie fdes) k (frame_no 0 0))
  used_at fdes k lt =
      get_or-map (λ (fde : FrameNo). use_of key (cies_for key own_cie fdes) (own_cie fde)) fdes k (frame_no 0 0) 0 lt
      ∙ ap (use_of key (cies_for key own_cie fdes)) (sym (get_or-map own_cie fdes k (frame_no 0 0) (frame_no 0 0) lt))

  pub plan_laws : (leaders : List (Option ℕ)) → AreInOrder lists → IsPlanned files b merged lists leaders (plan_of files b merged lists leaders)
  unfolding plan_of written_cies
  plan_laws leaders order =
      let fdes = written_fdes files b merged lists leaders in
      let cies = cies_for key own_cie fdes in
      record {
        each = each_led files b merged lists leaders;
        others = all_of (IsInPlace files b merged lists leaders) fdes (led_only files b merged lists leaders);
        order = fdes_order files b merged lists leaders order;
        uses = λ k lt.
            let used : ℕ → Type 0 = λ n. (n < length cies) × (key (get_or cies n (frame_no 0 0)) ≡ key (own_cie (get_or fdes k (frame_no 0 0)))) in
            let at = get_or-map (λ (fde : FrameNo). use_of key cies (own_cie fde)) fdes k (frame_no 0 0) 0 lt in
            let both = subst used (sym at) (one_use fdes k lt) in
            record { within = both.0; same = both.1 };
        apart = first_apart key [] (map own_cie fdes) (λ i j d lt high. absurd (omega (arith, high)));
        firsts = λ j lt.
            let f = each_first key (map own_cie fdes) j lt in
            let f_among = f.among in
            let among : f.at < length fdes = omega (arith, f_among, length-map fdes own_cie) in
            record {
              fde = f.at;
              among = among;
              is = f.is ∙ get_or-map own_cie fdes f.at (frame_no 0 0) (frame_no 0 0) among;
              own = used_at fdes f.at among ∙ f.own;
              before = λ k less.
                  let same = used_at fdes k (omega (arith, less, among)) in
                  let lesser = f.before k less in
                  omega (arith, same, lesser);
            };
      }
