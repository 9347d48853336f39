-- Which relocations of a section's unwind records kept functions need: a relocation lies in one record alone, so this record tells.
use Rattle.std.proofs.Common.{◌≡◌, ℕ, zero, suc, ◌+◌, ◌-◌, ◌<◌, ◌≤◌, ◌==◌, ◌&&◌, ◌||◌, Bool, true, false, Option, Some, None, is_some, List, [], ◌∷◌, ◌++◌, length, map, flat_map, get_or, take, drop, All, Contains, refl, sym, ap, ◌∙◌, subst, arith, inl, inr, unwrap_or}
use Rattle.std.specs.Prelude.{filter, find, if◌then◌else◌, nat_le, nat_lt}
use Rattle.std.specs.List.{list_any, position_or_len, range_with_len}
use Rattle.std.specs.Ordering.{int_eq}
use Rattle.std.proofs.lemmas.Bool.{and_from, and_parts, cases_Bool, cases_lt, cond-false, cond-true, eq-eqb, eqb-true, false_from_ne_true, leb-true, ltb-true, or_left, or_right}
use Rattle.std.proofs.lemmas.Bool.Decides.{Decides-int_eq}
use Rattle.std.specs.List.Sorted.{IsNonDecreasingBy}
use Rattle.std.proofs.lemmas.List.{get_or-map, get_or_past, length-map}
use Rattle.std.proofs.lemmas.List.Elements.{All-nil, All-cons, All-append, All-contains, All-contains_itself, All-drop, All-take, All-weaker}
use Rattle.std.proofs.lemmas.List.Folds.{list_any-append, list_any_at}
use Rattle.std.proofs.lemmas.List.FromFn.{get_or-map-range_with_len, get_or-range_with_len, length-map-range_with_len, length-range_with_len}
use Rattle.std.specs.Cmp.{both_ways}
use Rattle.indexmap.proofs.CallerLemmas.{Contains-list_any}
use Rattle.lk_tables.specs.declared.objects.Reloc.{Reloc}
use Rattle.lk_tables.specs.declared.records.FrameNo.{FrameNo}
use Rattle.lk_tables.specs.declared.records.Record.{Record}
use Rattle.lk_tables.specs.Binding.{Bindings}
use Rattle.lk_tables.specs.Files.{File, file_at, is_frame_at, relocs_at, section_at, section_no}
use Rattle.lk_tables.specs.Frames.{RecordList, all_lists, frame_no, frames_where, is_number, list_at, no_record, owner_at, owner_in}
use Rattle.lk_tables.specs.RecordViews.{record_view, record_views}
use Rattle.lk_tables.specs.Records.{RecordView, cie_before, end_at, first_records, has_width, is_cie, is_pointed_to, start_of, record_of, records_of, relocs_in, count}
use Rattle.lk_tables.specs.Sections.{contents_of}
use Rattle.lk_tables.specs.Sites.{place_of}
use Rattle.lk_tables.specs.Targets.{is_gone}
use Rattle.lk_tables.specs.Walks.{over_file, over_live}
use Rattle.lk_tables.proofs.BoundHas.{each_flat, each_if, one_if}
use Rattle.lk_tables.proofs.FrameLists.{number_is}
use Rattle.sec_graph.specs.FrameRelocs as frame_spec
use Rattle.sec_graph.specs.FrameRelocs.{cie_no, frame_relocs, has_reloc, list_in, others, same_reloc}
use Rattle.sec_graph.specs.Needs.{IsCountUpto, is_used, needs, record_in, uses}
use Rattle.sec_graph.specs.Undefined.{is_kept_owner, kept_frames, needed_relocs}
use Rattle.sec_graph.proofs.FoundRecords.{found_list, record_is}

-- one of a list passes
pub record PassesAt {X : Type 0} (p : X → Bool) (xs : List X) (d : X) : Type 0 where
  pub at : ℕ
  pub below : at < length xs
  pub passes : p (get_or xs at d) ≡ true

pub any_place : {X : Type 0} (p : X → Bool) (xs : List X) (d : X) → list_any p xs ≡ true → PassesAt p xs d
any_place p [] d is = let no : ⊥ = cc in absurd no
any_place p (x ∷ xs) d is = elim (cases_Bool (p x)) [
  | inl here ↦ record { at = 0; below = omega arith; passes = here }
  | inr other ↦
      let later = any_place p xs d (sym (ap (λ b. b || list_any p xs) other) ∙ is) in
      let low = later.below in
      record { at = suc later.at; below = omega (arith, low); passes = later.passes }
]

-- equal relocations
same_told : (r q : Reloc) → same_reloc r q ≡ true → r ≡ q
same_told r q is =
    let one = and_parts (r.offset == q.offset) (r.kind == q.kind && (r.symbol == q.symbol && int_eq r.addend q.addend)) is in
    let two = and_parts (r.kind == q.kind) (r.symbol == q.symbol && int_eq r.addend q.addend) one.1 in
    let three = and_parts (r.symbol == q.symbol) (int_eq r.addend q.addend) two.1 in
    let make : ℕ → ℕ → ℕ → _ → Reloc = λ o k s a. record { offset = o; kind = k; symbol = s; addend = a } in
    ap (λ o. make o r.kind r.symbol r.addend) (eqb-true r.offset q.offset one.0)
    ∙ ap (λ k. make q.offset k r.symbol r.addend) (eqb-true r.kind q.kind two.0)
    ∙ ap (λ s. make q.offset q.kind s r.addend) (eqb-true r.symbol q.symbol three.0)
    ∙ ap (make q.offset q.kind q.symbol) ((Decides-int_eq r.addend q.addend).0 three.1)

pub has_told : (rs : List Reloc) (r : Reloc) → has_reloc rs r ≡ true → Contains rs r
unfolding has_reloc
has_told rs r is = Contains-list_any same_reloc same_told rs r is

pub has_append : (xs ys : List Reloc) (r : Reloc) → has_reloc (xs ++ ys) r ≡ (has_reloc xs r || has_reloc ys r)
unfolding has_reloc
has_append xs ys r = list_any-append (same_reloc r) xs ys

-- the two parts of an FDE's relocations but that of PC Begin
pub others_left : (rs xs ys : List Reloc) (r : Reloc) → others rs ≡ xs ++ ys → has_reloc xs r ≡ true → has_reloc (others rs) r ≡ true
others_left rs xs ys r parts is = ap (λ l. has_reloc l r) parts ∙ has_append xs ys r ∙ ap (λ b. b || has_reloc ys r) is

pub others_right : (rs xs ys : List Reloc) (r : Reloc) → others rs ≡ xs ++ ys → has_reloc xs r ≡ false → has_reloc (others rs) r ≡ has_reloc ys r
others_right rs xs ys r parts off = ap (λ l. has_reloc l r) parts ∙ has_append xs ys r ∙ ap (λ b. b || has_reloc ys r) off

-- what holds of all relocations of an FDE holds of those but that of PC Begin
others_hold : (P : Reloc → Type 0) (rs : List Reloc) → All P rs → All P (others rs)
unfolding others
others_hold P rs all =
    let n = position_or_len has_width rs in
    All-append P (take n rs) (drop (n + 1) rs) (All-take P n rs all) (All-drop P (n + 1) rs all)

-- the records of one section, one after the other
pub record AreApart (rs : List RecordView) : Type 0 where
  pub rising : (i j : ℕ) (d : RecordView) → i ≤ j → j < length rs → (get_or rs i d).from ≤ (get_or rs j d).from
  pub starts : (j : ℕ) (d : RecordView) → j < length rs → All (λ (q : Reloc). (get_or rs j d).from ≤ q.offset) (get_or rs j d).relocs
  pub ends : (j k : ℕ) (d : RecordView) → j < k → k < length rs → All (λ (q : Reloc). q.offset < (get_or rs k d).from) (get_or rs j d).relocs
  pub cies : (j k : ℕ) → (record_in rs j).cie ≡ Some k → (record_in rs k).cie ≡ None

one_passed : (P : Reloc → Type 0) (b : Bool) (r : Reloc) (rs : List Reloc) → (b ≡ true → P r) → All P rs → All P (if b then r ∷ rs else rs)
one_passed P true r rs is rest = All-cons P r rs (is refl) rest
one_passed P false r rs is rest = rest

passed : (p : Reloc → Bool) (rs : List Reloc) → All (λ r. p r ≡ true) (filter p rs)
passed p [] = All-nil (λ r. p r ≡ true)
passed p (r ∷ rs) = one_passed (λ q. p q ≡ true) (p r) r (filter p rs) (λ is. is) (passed p rs)

found_passes : (p : ℕ → Bool) (xs : List ℕ) (k : ℕ) → find p xs ≡ Some k → p k ≡ true
found_passes p [] k is = let no : ⊥ = cc in absurd no
found_passes p (x ∷ xs) k is = elim (cases_Bool (p x)) [
  | inl here ↦
      let same : Some x ≡ Some k = sym (cond-true (p x) (Some x) (find p xs) here) ∙ is in
      let e : x ≡ k = cc in
      ap p (sym e) ∙ here
  | inr other ↦ found_passes p xs k (sym (cond-false (p x) (Some x) (find p xs) other) ∙ is)
]

module _ (c : List ℕ) (rs : List Reloc) where
  next_place : (j : ℕ) → start_of c j ≤ start_of c (suc j)
  unfolding start_of
  next_place j = omega arith

  places_rise : (j n : ℕ) → start_of c j ≤ start_of c (j + n)
  places_rise j zero = let e : j ≡ j + 0 = omega arith in omega (arith, ap (start_of c) e)
  places_rise j (suc n) =
      let e : suc (j + n) ≡ j + suc n = omega arith in
      omega (arith, places_rise j n, next_place (j + n), ap (start_of c) e)

  places_upto : (i j : ℕ) → i ≤ j → start_of c i ≤ start_of c j
  places_upto i j le = let e : i + (j - i) ≡ j = omega arith in omega (arith, places_rise i (j - i), ap (start_of c) e)

  end_is : (j : ℕ) → end_at c (start_of c j) ≡ start_of c (suc j)
  unfolding start_of
  end_is j = refl

  wide : length (records_of c rs) ≡ count c
  unfolding first_records
  wide = length-map-range_with_len (record_of c rs) 0 (count c)

  at_is : (j : ℕ) (d : RecordView) → j < count c → get_or (records_of c rs) j d ≡ record_of c rs j
  unfolding first_records
  at_is j d lt = get_or-map-range_with_len (record_of c rs) 0 (count c) j j d lt (omega arith)

  from_is : (j : ℕ) → (record_of c rs j).from ≡ start_of c j
  unfolding record_of
  from_is j = refl

  inside : (from end : ℕ) → All (λ (q : Reloc). (from ≤ q.offset) × (q.offset < end)) (relocs_in rs from end)
  unfolding relocs_in
  inside from end =
      let test : Reloc → Bool = λ q. nat_le from q.offset && nat_lt q.offset end in
      All-weaker (λ q. test q ≡ true) (λ (q : Reloc). (from ≤ q.offset) × (q.offset < end))
      (λ q is. let both = and_parts (nat_le from q.offset) (nat_lt q.offset end) is in (leb-true from q.offset both.0, ltb-true q.offset end both.1))
      (filter test rs) (passed test rs)

  own_relocs : (j : ℕ) → All (λ (q : Reloc). (start_of c j ≤ q.offset) × (q.offset < start_of c (suc j))) (record_of c rs j).relocs
  unfolding record_of
  own_relocs j =
      subst (λ e. All (λ (q : Reloc). (start_of c j ≤ q.offset) × (q.offset < e)) (record_of c rs j).relocs) (end_is j) (inside (start_of c j) (end_at c (start_of c j)))

  cie_if : (test : Bool) (o : Option ℕ) (k : ℕ) → (if test then None else o) ≡ Some k → o ≡ Some k
  cie_if true o k is = let no : ⊥ = cc in absurd no
  cie_if false o k is = is

  cie_none : (k : ℕ) → is_cie c (start_of c k) ≡ true → (record_of c rs k).cie ≡ None
  unfolding record_of
  cie_none k is = cond-true (is_cie c (start_of c k)) None (cie_before c k) is

  cie_leads : (j k : ℕ) → (record_of c rs j).cie ≡ Some k → is_cie c (start_of c k) ≡ true
  unfolding record_of cie_before is_pointed_to
  cie_leads j k is =
      let found = cie_if (is_cie c (start_of c j)) (cie_before c j) k is in
      (and_parts (is_cie c (start_of c k)) _ (found_passes (is_pointed_to c j) (range_with_len 0 j) k found)).0

  pub read_apart : AreApart (records_of c rs)
  read_apart =
      let L = records_of c rs in
      record {
        rising = λ i j d le lt.
            let at_i = ap (λ (r : RecordView). r.from) (at_is i d (omega (arith, le, lt, wide))) ∙ from_is i in
            let at_j = ap (λ (r : RecordView). r.from) (at_is j d (omega (arith, lt, wide))) ∙ from_is j in
            omega (arith, places_upto i j le, at_i, at_j);
        starts = λ j d lt.
            let at_j = at_is j d (omega (arith, lt, wide)) in
            subst (λ (r : RecordView). All (λ (q : Reloc). r.from ≤ q.offset) r.relocs) (sym at_j)
            (All-weaker (λ (q : Reloc). (start_of c j ≤ q.offset) × (q.offset < start_of c (suc j))) (λ (q : Reloc). (record_of c rs j).from ≤ q.offset)
            (λ q is. let low = is.0 in omega (arith, low, from_is j)) (record_of c rs j).relocs (own_relocs j));
        ends = λ j k d less lt.
            let at_j = at_is j d (omega (arith, less, lt, wide)) in
            let at_k = ap (λ (r : RecordView). r.from) (at_is k d (omega (arith, lt, wide))) ∙ from_is k in
            subst (λ (r : RecordView). All (λ (q : Reloc). q.offset < (get_or L k d).from) r.relocs) (sym at_j)
            (All-weaker (λ (q : Reloc). (start_of c j ≤ q.offset) × (q.offset < start_of c (suc j))) (λ (q : Reloc). q.offset < (get_or L k d).from)
            (λ q is. let high = is.1 in omega (arith, high, places_upto (suc j) k (omega (arith, less)), at_k)) (record_of c rs j).relocs (own_relocs j));
        cies = λ j k is. elim (cases_lt j (length L)) [
          | inr past ↦ let none : None ≡ Some k = sym (ap (λ (r : RecordView). r.cie) (get_or_past L j no_record past)) ∙ is in let no : ⊥ = cc in absurd no
          | inl lt ↦ elim (cases_lt k (length L)) [
            | inr past ↦ ap (λ (r : RecordView). r.cie) (get_or_past L k no_record past)
            | inl low ↦
                let own_j = at_is j no_record (omega (arith, lt, wide)) in
                let own_k = at_is k no_record (omega (arith, low, wide)) in
                ap (λ (r : RecordView). r.cie) own_k ∙ cie_none k (cie_leads j k (sym (ap (λ (r : RecordView). r.cie) own_j) ∙ is))
          ]
        ];
      }

-- so are those of each list of a link
module _ (files : List File) where
  pub lists_apart : All (λ (l : RecordList). AreApart l.records) (all_lists files)
  unfolding all_lists over_live over_file
  lists_apart =
      let P : RecordList → Type 0 = λ l. AreApart l.records in
      each_flat P (over_file files (list_at files)) 0 (length files) (λ f lt.
      each_if P (file_at files f).live (flat_map (list_at files f) (range_with_len 0 (length (file_at files f).head.sections))) (λ live.
      each_flat P (list_at files f) 0 (length (file_at files f).head.sections) (λ k below.
      let bytes = contents_of (file_at files f).bytes (section_at (file_at files f) k) in
      one_if P (is_frame_at (file_at files f) k) (record { section = section_no files f k; records = records_of bytes (relocs_at (file_at files f) k) })
      (λ _. read_apart bytes (relocs_at (file_at files f) k)))))

-- where so many records start at its offset or before it, a relocation is of the last of these
pub of_last : (rs : List RecordView) (j n : ℕ) (r : Reloc) → AreApart rs → IsCountUpto rs r.offset n → Contains (record_in rs j).relocs r → n ≡ j + 1
of_last rs j n r apart upto has = elim (cases_lt j (length rs)) [
  | inr past ↦
      let none = ap (λ (x : RecordView). x.relocs) (get_or_past rs j no_record past) in
      absurd (no_element r (subst (λ (l : List Reloc). Contains l r) none has))
  | inl lt ↦
      let low = All-contains (λ (q : Reloc). (get_or rs j no_record).from ≤ q.offset) (record_in rs j).relocs r (apart.starts j no_record lt) has in
      let more : j < n = elim (cases_lt j n) [
        | inl less ↦ less
        | inr most ↦ let past = upto.past j no_record most lt in absurd (omega (arith, past, low))
      ] in
      elim (cases_lt (j + 1) n) [
        | inr le ↦ omega (arith, le, more)
        | inl later ↦
            let bound = upto.bound in
            let next = upto.upto (j + 1) no_record later in
            let high = All-contains (λ (q : Reloc). q.offset < (get_or rs (j + 1) no_record).from) (record_in rs j).relocs r
            (apart.ends j (j + 1) no_record (omega arith) (omega (arith, later, bound))) has in
            absurd (omega (arith, next, high))
      ]
]
  where
    no_element : (r : Reloc) → Contains [] r → ⊥
    no_element r (k, lt, is) = omega (arith, lt)

-- a list that is put together, and one that is chosen by number
none_in : (r : Reloc) → has_reloc [] r ≡ false
unfolding has_reloc
none_in r = refl

any_flat : {X : Type 0} (g : X → List Reloc) (xs : List X) (r : Reloc) → has_reloc (flat_map g xs) r ≡ list_any (λ x. has_reloc (g x) r) xs
any_flat g [] r = none_in r
any_flat g (x ∷ xs) r = has_append (g x) (flat_map g xs) r ∙ ap (λ b. has_reloc (g x) r || b) (any_flat g xs r)

chosen_one : (b : Bool) (n k : ℕ) (test : FrameNo → Bool) (ks : List ℕ) (rest : Bool) → list_any test (map (frame_no n) ks) ≡ rest →
    list_any test (map (frame_no n) (if b then k ∷ ks else ks)) ≡ ((b && test (frame_no n k)) || rest)
chosen_one true n k test ks rest is = ap (λ d. test (frame_no n k) || d) is
chosen_one false n k test ks rest is = is

any_chosen : (p : ℕ → Bool) (n : ℕ) (test : FrameNo → Bool) (ks : List ℕ) → list_any test (map (frame_no n) (filter p ks)) ≡ list_any (λ k. p k && test (frame_no n k)) ks
any_chosen p n test [] = refl
any_chosen p n test (k ∷ ks) = chosen_one (p k) n k test (filter p ks) (list_any (λ j. p j && test (frame_no n j)) ks) (any_chosen p n test ks)

-- what is said of options
owned_some : (kept : List Bool) (test : Bool) (o : Option ℕ) → is_kept_owner kept (if test then o else None) ≡ true → test ≡ true
owned_some kept true o is = refl
owned_some kept false o is = let no : ⊥ = cc in absurd no

some_is : (o : Option ℕ) → is_some o ≡ true → o ≡ Some (unwrap_or o 0)
some_is None is = let no : ⊥ = cc in absurd no
some_is (Some k) is = refl

or_false : (a b : Bool) → a ≡ false → (a || b) ≡ true → b ≡ true
or_false true b off is = let no : ⊥ = cc in absurd no
or_false false b off is = is

-- the list of a section, in which a relocation is looked for
module _ (files : List File) (b : Bindings) (kept : List Bool) (l : RecordList) (r : Reloc) where
  abbrev lists : List RecordList
  lists = all_lists files

  abbrev file : ℕ
  file = (place_of files l.section).file

  abbrev at : ℕ → RecordView
  at i = record_in l.records i

  abbrev owned : ℕ → Bool
  owned i = is_kept_owner kept (owner_at files b l i)

  -- FDE number i is of a kept function, and it or its CIE has the relocation
  abbrev gives : ℕ → Bool
  gives i = owned i && has_reloc (frame_relocs lists (frame_no l.section i)) r

  abbrev all_numbers : List ℕ
  all_numbers = range_with_len 0 (length l.records)

  needed_is : (n : ℕ) → list_in lists n ≡ Some l → is_gone b l.section ≡ false → has_reloc (needed_relocs files b kept n) r ≡ list_any gives all_numbers
  unfolding needed_relocs frames_where
  needed_is n is stays =
      let chosen = map (frame_no l.section) (filter owned all_numbers) in
      let test : FrameNo → Bool = λ number. has_reloc (frame_relocs lists number) r in
      ap (λ o. has_reloc (flat_map (frame_relocs lists) (kept_frames files b kept o)) r) is
      ∙ any_flat (frame_relocs lists) (kept_frames files b kept (Some l)) r
      ∙ ap (λ d. list_any test (if d then [] else chosen)) stays
      ∙ any_chosen owned l.section test all_numbers

  own_section : (n : ℕ) → list_in lists n ≡ Some l → l.section ≡ n
  own_section n is = (found_list (λ (x : RecordList). Unit {0}) lists n l (λ k d lt. tt) is).own

  pub listed_apart : (n : ℕ) → list_in lists n ≡ Some l → AreApart l.records
  listed_apart n is = (found_list (λ (x : RecordList). AreApart x.records) lists n l (lists_apart files) is).has

  pub needed_gone : (n : ℕ) → list_in lists n ≡ Some l → is_gone b n ≡ true → has_reloc (needed_relocs files b kept n) r ≡ false
  unfolding needed_relocs frames_where
  needed_gone n is gone =
      let chosen = map (frame_no l.section) (filter owned all_numbers) in
      ap (λ o. has_reloc (flat_map (frame_relocs lists) (kept_frames files b kept o)) r) is
      ∙ ap (λ d. has_reloc (flat_map (frame_relocs lists) (if d then [] else chosen)) r) (ap (is_gone b) (own_section n is) ∙ gone)
      ∙ none_in r

  relocs_are : (i : ℕ) → list_in lists l.section ≡ Some l →
      frame_relocs lists (frame_no l.section i) ≡ others (at i).relocs ++ (at (unwrap_or (at i).cie 0)).relocs
  unfolding frame_relocs
  relocs_are i is =
      ap (λ (x : RecordView). others x.relocs ++ (frame_spec.record_by lists (frame_no l.section (unwrap_or x.cie 0))).relocs) (record_is lists l l.section i is)
      ∙ ap (λ (x : RecordView). others (at i).relocs ++ x.relocs) (record_is lists l l.section (unwrap_or (at i).cie 0) is)

  has_is : (i : ℕ) → list_in lists l.section ≡ Some l →
      has_reloc (frame_relocs lists (frame_no l.section i)) r ≡ (has_reloc (others (at i).relocs) r || has_reloc (at (unwrap_or (at i).cie 0)).relocs r)
  has_is i is = ap (λ x. has_reloc x r) (relocs_are i is) ∙ has_append (others (at i).relocs) (at (unwrap_or (at i).cie 0)).relocs r

  owned_fde : (i : ℕ) → owned i ≡ true → is_some (at i).cie ≡ true
  unfolding owner_in
  owned_fde i is = owned_some kept (is_some (at i).cie) _ is

  needs_fde : (i : ℕ) → is_some (at i).cie ≡ true → needs files b kept file l.records i r ≡ (has_reloc (others (at i).relocs) r && owned i)
  unfolding needs
  needs_fde i is = cond-true (is_some (at i).cie) _ _ is

  needs_cie : (i : ℕ) → is_some (at i).cie ≡ false → needs files b kept file l.records i r ≡ (has_reloc (at i).relocs r && is_used files b kept file l.records i)
  unfolding needs
  needs_cie i is = cond-false (is_some (at i).cie) _ _ is

  -- the last record that starts at the offset or before it tells
  record Told (n : ℕ) : Type 0 where
    some : 0 < n
    passing : needs files b kept file l.records (n - 1) r ≡ true

  told_at : (n i : ℕ) → n ≡ i + 1 → needs files b kept file l.records i r ≡ true → Told n
  told_at n i is passing =
      let e : i ≡ n - 1 = omega (arith, is) in
      record { some = omega (arith, is); passing = ap (λ k. needs files b kept file l.records k r) (sym e) ∙ passing }

  tells : (n i : ℕ) → AreApart l.records → list_in lists l.section ≡ Some l → IsCountUpto l.records r.offset n → i < length l.records → gives i ≡ true → Told n
  tells n i apart is upto lt passing =
      let both = and_parts (owned i) (has_reloc (frame_relocs lists (frame_no l.section i)) r) passing in
      let k = unwrap_or (at i).cie 0 in
      let fde = owned_fde i both.0 in
      let has = sym (has_is i is) ∙ both.1 in
      let mine = (at i).relocs in
      elim (cases_Bool (has_reloc (others mine) r)) [
        | inl here ↦
            let among = All-contains (Contains mine) (others mine) r (others_hold (Contains mine) mine (All-contains_itself mine)) (has_told (others mine) r here) in
            told_at n i (of_last l.records i n r apart upto among) (needs_fde i fde ∙ and_from _ _ here both.0)
        | inr other ↦
            let there = or_false (has_reloc (others mine) r) (has_reloc (at k).relocs r) other has in
            let leads = some_is (at i).cie fde in
            let cie = ap (λ (o : Option ℕ). is_some o) (apart.cies i k leads) in
            let one : uses files b kept file k (at i) ≡ true = and_from _ _ (ap (λ o. is_number o k) leads ∙ eq-eqb k k refl) both.0 in
            told_at n k (of_last l.records k n r apart upto (has_told (at k).relocs r there))
            (needs_cie k cie ∙ and_from _ _ there (list_any_at (uses files b kept file k) l.records i no_record lt one))
      ]

  record Given : Type 0 where
    number : ℕ
    below : number < length l.records
    passing : gives number ≡ true

  told : (i : ℕ) → list_in lists l.section ≡ Some l → i < length l.records → needs files b kept file l.records i r ≡ true → Given
  told i is lt passing = elim (cases_Bool (is_some (at i).cie)) [
    | inl fde ↦
        let both = and_parts (has_reloc (others (at i).relocs) r) (owned i) (sym (needs_fde i fde) ∙ passing) in
        record { number = i; below = lt; passing = and_from _ _ both.1 (has_is i is ∙ or_left _ _ both.0) }
    | inr cie ↦
        let both = and_parts (has_reloc (at i).relocs r) (is_used files b kept file l.records i) (sym (needs_cie i cie) ∙ passing) in
        let found = any_place (uses files b kept file i) l.records no_record both.1 in
        let j = found.at in
        let parts = and_parts (is_number (at j).cie i) (owned j) found.passes in
        let leads : unwrap_or (at j).cie 0 ≡ i = ap (λ (o : Option ℕ). unwrap_or o 0) (number_is (at j).cie i parts.0) in
        record {
          number = j;
          below = found.below;
          passing = and_from _ _ parts.1 (has_is j is ∙ or_right _ _ (ap (λ x. has_reloc (at x).relocs r) leads ∙ both.0));
        }
  ]

  number_at : (i : ℕ) → i < length l.records → get_or all_numbers i 0 ≡ i
  number_at i lt = let is = get_or-range_with_len 0 (length l.records) i 0 lt in omega (arith, is)

  of_numbers : (n : ℕ) → AreApart l.records → list_in lists l.section ≡ Some l → IsCountUpto l.records r.offset n → list_any gives all_numbers ≡ true → Told n
  of_numbers n apart is upto passing =
      let found = any_place gives all_numbers 0 passing in
      let low = found.below in
      let lt : found.at < length l.records = omega (arith, low, length-range_with_len 0 (length l.records)) in
      tells n found.at apart is upto lt (ap gives (sym (number_at found.at lt)) ∙ found.passes)

  own_list : (n : ℕ) → list_in lists n ≡ Some l → list_in lists l.section ≡ Some l
  own_list n is = ap (list_in lists) (own_section n is) ∙ is

  pub needed_none : (n count : ℕ) → list_in lists n ≡ Some l → is_gone b n ≡ false → IsCountUpto l.records r.offset count → count ≡ 0 →
      has_reloc (needed_relocs files b kept n) r ≡ false
  needed_none n count is stays upto none =
      needed_is n is (ap (is_gone b) (own_section n is) ∙ stays)
      ∙ false_from_ne_true (list_any gives all_numbers)
      (λ passing. let some = (of_numbers count (listed_apart n is) (own_list n is) upto passing).some in omega (arith, none, some))

  pub needed_at : (n count : ℕ) → list_in lists n ≡ Some l → is_gone b n ≡ false → IsCountUpto l.records r.offset count → 0 < count →
      has_reloc (needed_relocs files b kept n) r ≡ needs files b kept file l.records (count - 1) r
  needed_at n count is stays upto some =
      let mine = own_list n is in
      let bound = upto.bound in
      needed_is n is (ap (is_gone b) (own_section n is) ∙ stays)
      ∙ both_ways (list_any gives all_numbers) (needs files b kept file l.records (count - 1) r)
      (λ passing. (of_numbers count (listed_apart n is) mine upto passing).passing)
      (λ passing.
      let given = told (count - 1) mine (omega (arith, some, bound)) passing in
      let low = given.below in
      list_any_at gives all_numbers given.number 0 (omega (arith, low, length-range_with_len 0 (length l.records)))
      (ap gives (number_at given.number low) ∙ given.passing))

pub needed_past : (files : List File) (b : Bindings) (kept : List Bool) (n : ℕ) (r : Reloc) → list_in (all_lists files) n ≡ None → has_reloc (needed_relocs files b kept n) r ≡ false
unfolding needed_relocs
needed_past files b kept n r is = ap (λ o. has_reloc (flat_map (frame_relocs (all_lists files)) (kept_frames files b kept o)) r) is ∙ none_in r

-- records as they are held
record HasElement {X : Type 0} (xs : List X) (k : ℕ) : Type 0 where
  element : X

element_at : {X : Type 0} (xs : List X) (k : ℕ) → k < length xs → HasElement xs k
element_at [] k lt = absurd (omega (arith, lt))
element_at (x ∷ xs) k lt = record { element = x }

pub held_rising : (xs : List Record) → AreApart (record_views xs) → IsNonDecreasingBy (λ (r : Record). r.from) xs
held_rising xs apart = λ i j d le lt.
    let from : RecordView → ℕ = λ v. v.from in
    omega (
      arith,
      apart.rising i j (record_view d) le (omega (arith, lt, length-map xs record_view)),
      ap from (get_or-map record_view xs i d (record_view d) (omega (arith, le, lt))),
      ap from (get_or-map record_view xs j d (record_view d) lt),
    )

pub held_upto : (xs : List Record) (offset count : ℕ) → count ≤ length xs → ((k : ℕ) (d : Record) → k < length xs → k < count → (get_or xs k d).from ≤ offset) →
    ((k : ℕ) (d : Record) → count ≤ k → k < length xs → offset < (get_or xs k d).from) → IsCountUpto (record_views xs) offset count
held_upto xs offset count bound low high =
    let from : RecordView → ℕ = λ v. v.from in
    record {
      bound = omega (arith, bound, length-map xs record_view);
      upto = λ k d lt.
          let less : k < length xs = omega (arith, lt, bound) in
          let x = (element_at xs k less).element in
          omega (arith, low k x less lt, ap from (get_or-map record_view xs k x d less));
      past = λ k d le lt.
          let less : k < length xs = omega (arith, lt, length-map xs record_view) in
          let x = (element_at xs k less).element in
          omega (arith, high k x le less, ap from (get_or-map record_view xs k x d less));
    }
