-- The records one after another: what is known after some of them.
use Rattle.std.proofs.Common.{◌≡◌, ℕ, ◌+◌, ◌-◌, ◌<◌, ◌≤◌, Bool, true, false, not, cond, List, [], ◌∷◌, ◌++◌, length, map, get_or, Option, Some, None, refl, sym, ap, ◌∙◌, subst, arith}
use Rattle.std.specs.Prelude.{Ok, Err, is_some, IfSome}
use Rattle.std.specs.List.{All, range_with_len}
use Rattle.std.specs.List.Sorted.{IsNonDecreasingBy}
use Rattle.std.proofs.lemmas.List.{length-append, get_or-map, map-append}
use Rattle.std.proofs.lemmas.List.Elements.{All-append, All-cons, All-nil}
use Rattle.std.proofs.lemmas.List.FromFn.{get_or-map-range_with_len}
use Rattle.lk_base.specs.declared.kinds.TheConstants.{BAD_FRAME}
use Rattle.lk_base.proofs.Loops.{map_step}
use Rattle.lk_tables.specs.declared.objects.Reloc.{Reloc}
use Rattle.lk_tables.specs.Checks.{checked, passes, flaw_at, from_on}
use Rattle.lk_tables.proofs.Passing.{step_passes, step_fails, all_pass, checked_failed, checked_passed}
use Rattle.lk_tables.specs.declared.records.Record.{Record}
use Rattle.lk_tables.specs.Records.{RecordView, start_of, end_at, len_at, is_there, count, record_of, first_records, records_of}
use Rattle.eh_frame.specs.RecordChecks.{is_bad_record, record_checks}
use Rattle.lk_tables.specs.RecordViews.{record_view, record_views}
use Rattle.eh_frame.proofs.Places.{place_next, place_le, below_count, at_count, count_most}

-- some records have passed, and the next one may start at `at`
pub record Walked (section offset : ℕ) (c : List ℕ) (relocs : List Reloc) (at : ℕ) (records : List Record) : Type 0 where
  pub few : length records ≤ count c
  pub here : at ≡ start_of c (length records)
  pub start : at ≤ length c
  pub so_far : passes (from_on (record_checks section offset c relocs) (length records) (count c)) ≡ passes (from_on (record_checks section offset c relocs) 0 (count c))
  pub records_are : record_views records ≡ first_records c relocs (length records)
  pub inside : All (λ (r : Record). r.from + 8 ≤ length c) records

pub begun : (section offset : ℕ) (c : List ℕ) (relocs : List Reloc) (records : List Record) → records ≡ [] → Walked section offset c relocs 0 records
unfolding start_of first_records
begun section offset c relocs records is =
    let P : List Record → Type 0 = λ list. Walked section offset c relocs 0 list in
    subst P (sym is) (record {
      few = omega arith;
      here = refl;
      start = omega arith;
      so_far = refl;
      records_are = refl;
      inside = All-nil (λ (r : Record). r.from + 8 ≤ length c);
    })

pub view_from : (c : List ℕ) (relocs : List Reloc) (j : ℕ) → (record_of c relocs j).from ≡ start_of c j
unfolding record_of
view_from c relocs j = refl

pub view_len : (c : List ℕ) (relocs : List Reloc) (j : ℕ) → (record_of c relocs j).len ≡ len_at c (start_of c j)
unfolding record_of
view_len c relocs j = refl

one_more : (c : List ℕ) (relocs : List Reloc) (records : List Record) (r : Record) → record_views records ≡ first_records c relocs (length records) →
    record_view r ≡ record_of c relocs (length records) → record_views (records ++ (r ∷ [])) ≡ first_records c relocs (length records + 1)
unfolding first_records
one_more c relocs records r held is =
    map_step (record_of c relocs) (length records) (record_views records) (record_views (records ++ (r ∷ []))) held
    (map-append record_view records (r ∷ []) ∙ ap (λ v. record_views records ++ (v ∷ [])) is)

sound_check : (section offset : ℕ) (c : List ℕ) (relocs : List Reloc) (j : ℕ) → is_bad_record c relocs j ≡ false → checked (record_checks section offset c relocs j) (tt {0}) ≡ Ok (tt {0})
unfolding record_checks
sound_check section offset c relocs j sound =
    ap (λ b. cond b (Err (flaw_at BAD_FRAME section (offset + start_of c j))) (Ok (tt {0}))) sound

broken_check : (section offset : ℕ) (c : List ℕ) (relocs : List Reloc) (j : ℕ) → is_bad_record c relocs j ≡ true →
    checked (record_checks section offset c relocs j) (tt {0}) ≡ Err (flaw_at BAD_FRAME section (offset + start_of c j))
unfolding record_checks
broken_check section offset c relocs j bad =
    ap (λ b. cond b (Err (flaw_at BAD_FRAME section (offset + start_of c j))) (Ok (tt {0}))) bad

-- one record more
pub walk_on : (section offset : ℕ) (c : List ℕ) (relocs : List Reloc) (at next : ℕ) (old new : List Record) (r : Record) → Walked section offset c relocs at old →
    is_there c at ≡ true → is_bad_record c relocs (length old) ≡ false → record_view r ≡ record_of c relocs (length old) → 4 ≤ r.len →
    r.from + 4 + r.len ≤ length c → next ≡ at + (4 + r.len) → new ≡ old ++ (r ∷ []) → Walked section offset c relocs next new
walk_on section offset c relocs at next old new r w there sound is least fits step push =
    let n = length old in
    let one : length (old ++ (r ∷ [])) ≡ n + 1 = length-append old (r ∷ []) in
    let low : n < count c = below_count c n w.few (subst (λ (k : ℕ). is_there c k ≡ true) w.here there) in
    let from : r.from ≡ start_of c n = ap (λ (v : RecordView). v.from) is ∙ view_from c relocs n in
    let len : r.len ≡ len_at c (start_of c n) = ap (λ (v : RecordView). v.len) is ∙ view_len c relocs n in
    let after : start_of c (n + 1) ≡ end_at c (start_of c n) = place_next c n in
    let here : next ≡ start_of c (n + 1) = omega (arith, step, len, after, w.here) in
    let P : List Record → Type 0 = λ list. Walked section offset c relocs next list in
    subst P (sym push) (record {
      few = omega (arith, one, low);
      here = here ∙ ap (start_of c) (sym one);
      start = omega (arith, from, w.here, step, fits);
      so_far = ap (λ k. passes (from_on (record_checks section offset c relocs) k (count c))) one
          ∙ step_passes (record_checks section offset c relocs) n (count c) (tt {0}) (tt {0}) (passes (from_on (record_checks section offset c relocs) 0 (count c)))
          low w.so_far (sound_check section offset c relocs n sound);
      records_are = one_more c relocs old r w.records_are is ∙ ap (first_records c relocs) (sym one);
      inside = All-append (λ (r : Record). r.from + 8 ≤ length c) old (r ∷ []) w.inside
          (All-cons (λ (r : Record). r.from + 8 ≤ length c) r [] (omega (arith, least, fits)) (All-nil (λ (r : Record). r.from + 8 ≤ length c)));
    })

pub few_records : (section offset : ℕ) (c : List ℕ) (relocs : List Reloc) (at : ℕ) (list : List Record) → Walked section offset c relocs at list → length list ≤ length c
few_records section offset c relocs at list w = omega (arith, w.few, count_most c)

-- a record that is broken
pub walk_fails : (section offset : ℕ) (c : List ℕ) (relocs : List Reloc) (at : ℕ) (old : List Record) → Walked section offset c relocs at old →
    is_there c at ≡ true → is_bad_record c relocs (length old) ≡ true →
    checked (from_on (record_checks section offset c relocs) 0 (count c)) (records_of c relocs) ≡ Err (flaw_at BAD_FRAME section (offset + at))
walk_fails section offset c relocs at old w there bad =
    let n = length old in
    let low : n < count c = below_count c n w.few (subst (λ (k : ℕ). is_there c k ≡ true) w.here there) in
    checked_failed (from_on (record_checks section offset c relocs) 0 (count c)) (tt {0}) (records_of c relocs) (flaw_at BAD_FRAME section (offset + at))
    (step_fails (record_checks section offset c relocs) n (count c) (tt {0}) (flaw_at BAD_FRAME section (offset + at))
    (passes (from_on (record_checks section offset c relocs) 0 (count c))) low w.so_far
    (broken_check section offset c relocs n bad ∙ ap (λ k. Err (flaw_at BAD_FRAME section (offset + k))) (sym w.here)))

-- after the last record
pub walk_ends : (section offset : ℕ) (c : List ℕ) (relocs : List Reloc) (at : ℕ) (list : List Record) → Walked section offset c relocs at list →
    is_there c at ≡ false → checked (from_on (record_checks section offset c relocs) 0 (count c)) (records_of c relocs) ≡ Ok (record_views list)
walk_ends section offset c relocs at list w gone =
    let n = length list in
    let same : n ≡ count c = at_count c n w.few (subst (λ (k : ℕ). is_there c k ≡ false) w.here gone) in
    let passed = all_pass (record_checks section offset c relocs) n (count c) (passes (from_on (record_checks section offset c relocs) 0 (count c))) (omega (arith, same)) w.so_far in
    checked_passed (from_on (record_checks section offset c relocs) 0 (count c)) (tt {0}) (records_of c relocs) (tt {0}) passed
    ∙ ap Ok (sym (w.records_are ∙ ap (first_records c relocs) same))

-- the records that are read start where the definition says, and so they rise
pub from_at : (c : List ℕ) (relocs : List Reloc) (records : List Record) (k : ℕ) (d : Record) → record_views records ≡ first_records c relocs (length records) →
    k < length records → (get_or records k d).from ≡ start_of c k
unfolding first_records
from_at c relocs records k d held lt =
    let v = record_view d in
    let left : get_or (record_views records) k v ≡ record_view (get_or records k d) = get_or-map record_view records k d v lt in
    let right : get_or (map (record_of c relocs) (range_with_len 0 (length records))) k v ≡ record_of c relocs k = get_or-map-range_with_len (record_of c relocs) 0 (length records) k k v lt (omega arith) in
    ap (λ (r : RecordView). r.from) (sym left ∙ ap (λ list. get_or list k v) held ∙ right) ∙ view_from c relocs k

pub in_order : (c : List ℕ) (relocs : List Reloc) (records : List Record) → record_views records ≡ first_records c relocs (length records) →
    IsNonDecreasingBy (λ (r : Record). r.from) records
in_order c relocs records held = λ i j d le lt.
    omega (arith, from_at c relocs records i d held (omega (arith, le, lt)), from_at c relocs records j d held lt, place_le c i j le)

-- what the reader of one record answered
not_true : (b : Bool) → false ≡ not b → b ≡ true
not_true true e = refl
not_true false e = cc

not_false : (b : Bool) → true ≡ not b → b ≡ false
not_false true e = cc
not_false false e = refl

pub is_bad_from : (bad : Bool) (o : Option Record) → is_some o ≡ not bad → o ≡ None → bad ≡ true
is_bad_from bad o told none = not_true bad (sym (ap is_some none) ∙ told)

pub record IsRead (c : List ℕ) (relocs : List Reloc) (old : List Record) (r : Record) : Type 0 where
  pub sound : is_bad_record c relocs (length old) ≡ false
  pub value : record_view r ≡ record_of c relocs (length old)
  pub end : r.from + 4 + r.len ≤ length c
  pub least : 4 ≤ r.len

pub read_from : (c : List ℕ) (relocs : List Reloc) (slice old : List Record) (o : Option Record) (r : Record) → slice ≡ old → o ≡ Some r →
    is_some o ≡ not (is_bad_record c relocs (length slice)) → IfSome o (λ (x : Record). record_view x ≡ record_of c relocs (length slice)) →
    IfSome o (λ (x : Record). x.from + 4 + x.len ≤ length c) → IfSome o (λ (x : Record). 4 ≤ x.len) → IsRead c relocs old r
read_from c relocs slice old o r same is told value end least =
    let P : List Record → Type 0 = λ list. IsRead c relocs list r in
    let V : Option Record → Type 0 = λ p. IfSome p (λ (x : Record). record_view x ≡ record_of c relocs (length slice)) in
    let E : Option Record → Type 0 = λ p. IfSome p (λ (x : Record). x.from + 4 + x.len ≤ length c) in
    let L : Option Record → Type 0 = λ p. IfSome p (λ (x : Record). 4 ≤ x.len) in
    subst P same (record {
      sound = not_false (is_bad_record c relocs (length slice)) (sym (ap is_some is) ∙ told);
      value = subst V is value;
      end = subst E is end;
      least = subst L is least;
    })

-- what is left of the section gets less
pub smaller : (section offset : ℕ) (c : List ℕ) (relocs : List Reloc) (at : ℕ) (old : List Record) (r : Record) → Walked section offset c relocs at old → IsRead c relocs old r →
    length c - (at + (4 + r.len)) < length c - at
smaller section offset c relocs at old r w read =
    let from : r.from ≡ start_of c (length old) = ap (λ (v : RecordView). v.from) read.value ∙ view_from c relocs (length old) in
    omega (arith, from, w.here, read.end)
