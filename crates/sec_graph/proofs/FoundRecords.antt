-- Records that are found by their numbers, and the CIEs of FDEs.
use Rattle.std.proofs.Common.{◌≡◌, ℕ, ◌+◌, ◌^◌, ◌<◌, ◌≤◌, ◌==◌, ◌&&◌, ◌||◌, Bool, true, false, Option, Some, None, List, [], ◌∷◌, ◌++◌, length, map, get_or, take, drop, All, refl, sym, ap, ◌∙◌, subst, arith, inl, inr, unwrap_or}
use Rattle.std.specs.Prelude.{fold, if◌then◌else◌}
use Rattle.std.specs.List.{list_any, position_or_len}
use Rattle.std.proofs.lemmas.Bool.{and_parts, cases_Bool, cases_lt, cond-true, cond-false, eqb-true}
use Rattle.std.proofs.lemmas.List.{get_or-map, get_or_past, length-append, length-drop, length-map, length-take, map-append, take_more}
use Rattle.std.proofs.lemmas.List.Elements.{All-nil, All-cons, All-head, All-tail, All-append}
use Rattle.std.proofs.lemmas.List.Sums.{fold-append}
use Rattle.std.proofs.lemmas.Option.{same_Some}
use Rattle.lk_tables.specs.declared.objects.Reloc.{Reloc}
use Rattle.lk_tables.specs.declared.records.FrameNo.{FrameNo}
use Rattle.lk_tables.specs.Files.{File, section_total}
use Rattle.lk_tables.specs.Frames.{IsListWithin, IsRecordWithin, RecordList, frame_no, no_record, nth, record_at}
use Rattle.lk_tables.specs.Records.{RecordView, has_width}
use Rattle.lk_tables.specs.Sites.{contents_at}
use Rattle.sec_graph.specs.FrameKeys.{number_of}
use Rattle.sec_graph.specs.FrameRelocs.{cie_no, cies_of, list_in, others, record_by, same_no, with_no}

-- the list that is found is one of the lists, and of the section
pub record IsFound (P : RecordList → Type 0) (section : ℕ) (l : RecordList) : Type 0 where
  pub has : P l
  pub own : l.section ≡ section

pub found_list : (P : RecordList → Type 0) (lists : List RecordList) (n : ℕ) (l : RecordList) → All P lists → list_in lists n ≡ Some l → IsFound P n l
found_list P [] n l all is = let no : ⊥ = cc in absurd no
found_list P (x ∷ xs) n l all is = elim (cases_Bool (x.section == n)) [
  | inl same ↦
      let here : x ≡ l = same_Some x l (sym (cond-true (x.section == n) (Some x) (list_in xs n) same) ∙ is) in
      record { has = subst P here (All-head P x xs all); own = ap (λ (y : RecordList). y.section) (sym here) ∙ eqb-true x.section n same }
  | inr other ↦ found_list P xs n l (All-tail P x xs all) (sym (cond-false (x.section == n) (Some x) (list_in xs n) other) ∙ is)
]

-- a record that is there is of such a list
record HasList (at : ℕ) (o : Option RecordList) (r : RecordView) : Type 0 where
  list : RecordList
  is : o ≡ Some list
  own : nth at (Some list) ≡ Some r

nth_some : (at : ℕ) (o : Option RecordList) (r : RecordView) → nth at o ≡ Some r → HasList at o r
nth_some at None r is = let no : ⊥ = cc in absurd no
nth_some at (Some l) r is = record { list = l; is = refl; own = is }

pub found_below : (files : List File) (lists : List RecordList) (number : FrameNo) (r : RecordView) → All (IsListWithin files) lists → record_at lists number ≡ Some r → number.section < section_total files
unfolding record_at
found_below files lists number r all is =
    let has = nth_some number.at (list_in lists number.section) r is in
    let found = found_list (IsListWithin files) lists number.section has.list all has.is in
    let below = found.has.section in
    omega (arith, below, found.own)

-- a record of a list, by its number
pub nth_is : (rs : List RecordView) (at : ℕ) → unwrap_or (get_or (map Some rs) at None) no_record ≡ get_or rs at no_record
nth_is rs at = elim (cases_lt at (length rs)) [
  | inl lt ↦ ap (λ o. unwrap_or o no_record) (get_or-map Some rs at no_record None lt)
  | inr past ↦
      ap (λ o. unwrap_or o no_record) (get_or_past (map Some rs) at None (omega (arith, past, length-map {B = Option RecordView} rs Some)))
      ∙ sym (get_or_past rs at no_record past)
]

pub record_is : (lists : List RecordList) (l : RecordList) (n at : ℕ) → list_in lists n ≡ Some l → record_by lists (frame_no n at) ≡ get_or l.records at no_record
unfolding record_at
record_is lists l n at is = ap (λ o. unwrap_or (nth at o) no_record) is ∙ nth_is l.records at

-- numbers of what was read are small
small_in : (size count : ℕ) (rs : List RecordView) (at : ℕ) → size < 2 ^ 31 → All (IsRecordWithin size count) rs → ((get_or rs at no_record).from < 2 ^ 32) × ((get_or rs at no_record).len < 2 ^ 32)
small_in size count rs at few all = elim (cases_lt at (length rs)) [
  | inl lt ↦ let own = all at no_record lt in let within = own.bytes in (omega (arith, within, few), omega (arith, within, few))
  | inr past ↦
      let none = get_or_past rs at no_record past in
      (omega (arith, ap (λ (r : RecordView). r.from) none), omega (arith, ap (λ (r : RecordView). r.len) none))
]

small_by : (files : List File) (n at : ℕ) (lists : List RecordList) (o : Option RecordList) → All (IsListWithin files) lists → list_in lists n ≡ o →
    ((unwrap_or (nth at o) no_record).from < 2 ^ 32) × ((unwrap_or (nth at o) no_record).len < 2 ^ 32)
small_by files n at lists None all is = (omega arith, omega arith)
small_by files n at lists (Some l) all is =
    let found = found_list (IsListWithin files) lists n l all is in
    let own = found.has in
    let both = small_in (length (contents_at files l.section)) (length l.records) l.records at own.short own.records in
    let same = nth_is l.records at in
    let from = both.0 in
    let len = both.1 in
    (omega (arith, from, ap (λ (r : RecordView). r.from) same), omega (arith, len, ap (λ (r : RecordView). r.len) same))

pub small_record : (files : List File) (lists : List RecordList) (number : FrameNo) → All (IsListWithin files) lists →
    ((record_by lists number).from < 2 ^ 32) × ((record_by lists number).len < 2 ^ 32)
unfolding record_at
small_record files lists number all = small_by files number.section number.at lists (list_in lists number.section) all refl

-- a number added to those that are known, as a key and as a record's number
any_keys : (k : ℕ × ℕ) (ks : List (ℕ × ℕ)) → list_any (same_no (number_of k)) (map number_of ks) ≡ list_any (λ q. k.0 == q.0 && k.1 == q.1) ks
any_keys k [] = refl
any_keys k (q ∷ qs) = ap (λ b. (k.0 == q.0 && k.1 == q.1) || b) (any_keys k qs)

added : (d : Bool) (k : ℕ × ℕ) (ks : List (ℕ × ℕ)) → map number_of (if d then ks else ks ++ k ∷ []) ≡ (if d then map number_of ks else map number_of ks ++ number_of k ∷ [])
added true k ks = refl
added false k ks = map-append number_of ks (k ∷ [])

pub inserted : (k : ℕ × ℕ) (ks : List (ℕ × ℕ)) →
    map number_of (if list_any (λ q. k.0 == q.0 && k.1 == q.1) ks then ks else ks ++ k ∷ []) ≡ with_no (map number_of ks) (number_of k)
inserted k ks =
    added (list_any (λ q. k.0 == q.0 && k.1 == q.1) ks) k ks
    ∙ ap (λ d. if d then map number_of ks else map number_of ks ++ number_of k ∷ []) (sym (any_keys k ks))

-- the CIE of one FDE more
pub more_cies : (lists : List RecordList) (fdes : List FrameNo) (i : ℕ) (d : FrameNo) (old : List FrameNo) → i < length fdes →
    old ≡ fold with_no [] (map (cie_no lists) (take i fdes)) → with_no old (cie_no lists (get_or fdes i d)) ≡ fold with_no [] (map (cie_no lists) (take (i + 1) fdes))
more_cies lists fdes i d old lt is =
    let cie = cie_no lists (get_or fdes i d) in
    ap (λ l. with_no l cie) is
    ∙ sym (ap (λ l. fold with_no [] (map (cie_no lists) l)) (take_more fdes i d lt)
    ∙ ap (fold with_no []) (map-append (cie_no lists) (take i fdes) (get_or fdes i d ∷ []))
    ∙ fold-append with_no [] (map (cie_no lists) (take i fdes)) (cie ∷ []))

-- what holds of the CIEs, each once, holds of that of each FDE, and the other way round
same_told : (n m : FrameNo) → same_no n m ≡ true → n ≡ m
same_told n m is =
    let both = and_parts (n.section == m.section) (n.at == m.at) is in
    ap (λ s. frame_no s n.at) (eqb-true n.section m.section both.0) ∙ ap (frame_no m.section) (eqb-true n.at m.at both.1)

any_has : (P : FrameNo → Type 0) (number : FrameNo) (known : List FrameNo) → list_any (same_no number) known ≡ true → All P known → P number
any_has P number [] is all = let none : ⊥ = cc in absurd none
any_has P number (k ∷ ks) is all = elim (cases_Bool (same_no number k)) [
  | inl same ↦ subst P (sym (same_told number k same)) (All-head P k ks all)
  | inr other ↦ any_has P number ks (sym (ap (λ b. b || list_any (same_no number) ks) other) ∙ is) (All-tail P k ks all)
]

with_all : (P : FrameNo → Type 0) (number : FrameNo) (known : List FrameNo) → All P known → P number → All P (with_no known number)
with_all P number known all own = by (list_any (same_no number) known)
  where
    by : (d : Bool) → All P (if d then known else known ++ number ∷ [])
    by true = all
    by false = All-append P known (number ∷ []) all (All-cons P number [] own (All-nil P))

record WithParts (P : FrameNo → Type 0) (number : FrameNo) (known : List FrameNo) : Type 0 where
  known_too : All P known
  own : P number

left_part : (P : FrameNo → Type 0) (xs : List FrameNo) (y : FrameNo) → All P (xs ++ y ∷ []) → WithParts P y xs
left_part P [] y all = record { known_too = All-nil P; own = All-head P y [] all }
left_part P (x ∷ xs) y all =
    let rest = left_part P xs y (All-tail P x (xs ++ y ∷ []) all) in
    record { known_too = All-cons P x xs (All-head P x (xs ++ y ∷ []) all) rest.known_too; own = rest.own }

with_parts : (P : FrameNo → Type 0) (number : FrameNo) (known : List FrameNo) → All P (with_no known number) → WithParts P number known
with_parts P number known all = by (list_any (same_no number) known) refl all
  where
    by : (d : Bool) → list_any (same_no number) known ≡ d → All P (if d then known else known ++ number ∷ []) → WithParts P number known
    by true is both = record { known_too = both; own = any_has P number known is both }
    by false is both = left_part P known number both

fold_all : (P : FrameNo → Type 0) (known nos : List FrameNo) → All P known → All P nos → All P (fold with_no known nos)
fold_all P known [] all more = all
fold_all P known (number ∷ nos) all more =
    fold_all P (with_no known number) nos (with_all P number known all (All-head P number nos more)) (All-tail P number nos more)

fold_parts : (P : FrameNo → Type 0) (known nos : List FrameNo) → All P (fold with_no known nos) → (All P known × All P nos)
fold_parts P known [] all = (all, All-nil P)
fold_parts P known (number ∷ nos) all =
    let rest = fold_parts P (with_no known number) nos all in
    let own = with_parts P number known rest.0 in
    (own.known_too, All-cons P number nos own.own rest.1)

pub cies_all : (P : FrameNo → Type 0) (lists : List RecordList) (fdes : List FrameNo) → All P (map (cie_no lists) fdes) → All P (cies_of lists fdes)
unfolding cies_of
cies_all P lists fdes all = fold_all P [] (map (cie_no lists) fdes) (All-nil P) all

pub cies_parts : (P : FrameNo → Type 0) (lists : List RecordList) (fdes : List FrameNo) → All P (cies_of lists fdes) → All P (map (cie_no lists) fdes)
unfolding cies_of
cies_parts P lists fdes all = (fold_parts P [] (map (cie_no lists) fdes) all).1

-- how many relocations an FDE has but that of PC Begin
pub others_more : (relocs : List Reloc) → position_or_len has_width relocs < length relocs → length (others relocs) + 1 ≡ length relocs
unfolding others
others_more relocs lt =
    let n = position_or_len has_width relocs in
    omega (arith, lt, length-append (take n relocs) (drop (n + 1) relocs), length-take n relocs, length-drop (n + 1) relocs)

pub others_all : (relocs : List Reloc) → length relocs ≤ position_or_len has_width relocs → length (others relocs) ≡ length relocs
unfolding others
others_all relocs le =
    let n = position_or_len has_width relocs in
    omega (arith, le, length-append (take n relocs) (drop (n + 1) relocs), length-take n relocs, length-drop (n + 1) relocs)
