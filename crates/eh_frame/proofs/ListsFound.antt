-- A record that is there is found by its numbers.
use Rattle.std.proofs.Common.{◌≡◌, ℕ, ◌<◌, ◌==◌, true, List, length, map, get_or, find, refl, sym, ap, ◌∙◌, arith, Option, Some, None}
use Rattle.std.specs.Prelude.{is_some, unwrap_or}
use Rattle.std.proofs.lemmas.List.{get_or_default, get_or-map, length-map}
use Rattle.std.proofs.lemmas.List.Kept.{AllPairs-from_increasing}
use Rattle.lk_tables.specs.declared.records.FrameNo.{FrameNo}
use Rattle.lk_tables.specs.declared.records.Record.{Record}
use Rattle.lk_tables.specs.Frames.{AreInOrder, RecordList, frame_no, list_view, list_views, no_record, nth, record_at}
use Rattle.lk_tables.specs.RecordViews.{record_view}
use Rattle.lk_tables.specs.Records.{RecordView}
use Rattle.lk_tables.proofs.Finding.{found}
use Rattle.lk_tables.proofs.FrameLists.{Listed, some_at}
use Rattle.eh_frame.specs.Plan.{record_by}

abbrev number : RecordList → ℕ
number l = l.section

-- the lists before one have lesser sections
less_before : (lists : List RecordList) (j k : ℕ) (d : RecordList) → AreInOrder lists → j < k → k < length lists →
    number (get_or lists j d) < number (get_or lists k d)
less_before lists j k d up lt within =
    let numbers = map number lists in
    let at : (i : ℕ) → i < length lists → get_or numbers i d.section ≡ number (get_or lists i d) = λ i less. get_or-map number lists i d d.section less in
    let high : k < length numbers = omega (arith, within, length-map lists number) in
    let one = at j (omega (arith, lt, within)) in
    let two = at k within in
    let rises = AllPairs-from_increasing numbers up j k d.section lt high in
    omega (arith, rises, one, two)

pub view_found : (lists : List RecordList) (k : ℕ) (l : RecordList) → AreInOrder lists → k < length lists → l ≡ get_or lists k l →
    find (λ (x : RecordList). x.section == l.section) lists ≡ Some l
view_found lists k l up lt is =
    found number lists l.section k l lt
    (λ j d less.
    let before = less_before lists j k d up less lt in
    let own : number (get_or lists k d) ≡ l.section = ap number (get_or_default lists k d l lt) ∙ sym (ap number is) in
    omega (arith, before, own))
    is refl

pub record_found : (lists : List RecordList) (k : ℕ) (l : RecordList) (at : ℕ) (d : RecordView) → AreInOrder lists → k < length lists → l ≡ get_or lists k l →
    at < length l.records → record_at lists (frame_no l.section at) ≡ Some (get_or l.records at d)
unfolding record_at
record_found lists k l at d up lt is below =
    ap (nth at) (view_found lists k l up lt is) ∙ get_or-map (λ x. Some x) l.records at d None below

-- the same where the list is one of those that the code holds
held_found : (lists : List Listed) (n place : ℕ) (own : Listed) → AreInOrder (list_views lists) → place < length lists → own ≡ get_or lists place own → own.0 ≡ n →
    find (λ (x : RecordList). x.section == n) (list_views lists) ≡ Some (list_view own)
held_found lists n place own up lt is same =
    ap (λ m. find (λ (x : RecordList). x.section == m) (list_views lists)) (sym same)
    ∙ view_found (list_views lists) place (list_view own) up (omega (arith, lt, length-map lists list_view))
    (ap list_view is ∙ sym (get_or-map list_view lists place own (list_view own) lt))

pub near_is : (lists : List Listed) (wanted : FrameNo) (place : ℕ) (own : Listed) (r : Record) → AreInOrder (list_views lists) → place < length lists →
    own ≡ get_or lists place own → own.0 ≡ wanted.section → wanted.at < length own.1.items → r ≡ get_or own.1.items wanted.at r →
    record_at (list_views lists) wanted ≡ Some (record_view r)
unfolding record_at
near_is lists wanted place own r up lt is same below there =
    ap (nth wanted.at) (held_found lists wanted.section place own up lt is same) ∙ some_at own.1.items wanted.at r below there

pub record_is : (lists : List RecordList) (wanted : FrameNo) (r : RecordView) → record_at lists wanted ≡ Some r → r ≡ record_by lists wanted
record_is lists wanted r is = sym (ap (λ o. unwrap_or o no_record) is)

pub not_none : (o : Option RecordView) → is_some o ≡ true → o ≡ None → ⊥
not_none None some is = cc
not_none (Some r) some is = cc
