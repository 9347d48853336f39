-- Of a section in which no check is broken: the bytes of relocations stand after the CIE ID or the CIE Pointer of their record, and no addend is too low.
use Rattle.std.proofs.Common.{◌≡◌, ℕ, suc, ◌+◌, ◌-◌, ◌^◌, ◌<◌, ◌≤◌, ◌≤ℤ◌, ◌&&◌, pos, negsuc, Bool, true, false, nat_le, nat_lt, List, Option, Some, None, length, map, get_or, sym, arith, subst, inl, inr, leb-true, ltb-true}
use Rattle.std.specs.Int.{cast_signed, w64}
use Rattle.std.specs.List.{All, filter, list_any, range_with_len}
use Rattle.std.proofs.lemmas.Bool.{and_parts, cases_Bool, cases_lt, cond-false, cond-true, ltb-false}
use Rattle.std.proofs.lemmas.Int.{ints}
use Rattle.std.proofs.lemmas.List.Elements.{All-filter, All-map, All-nil, filter_passes}
use Rattle.std.proofs.lemmas.List.FromFn.{get_or-map-range_with_len, length-map-range_with_len}
use Rattle.lk_tables.specs.declared.objects.Reloc.{Reloc}
use Rattle.lk_tables.specs.Bodies.{rela_of}
use Rattle.lk_tables.specs.Checks.{NoneBroken, from_on}
use Rattle.lk_tables.specs.Entries.{reloc_at}
use Rattle.lk_tables.specs.Numbers.{sxword_at}
use Rattle.lk_tables.specs.Objects.{relocs_for, relocs_in as relocs_by}
use Rattle.lk_tables.specs.Records.{RecordView, count, end_at, first_records, has_width, start_of, record_of, records_of, relocs_in}
use Rattle.lk_tables.specs.Relocations.{in_order, place_width, rela_place, reloc}
use Rattle.lk_tables.specs.Sections.{section_of}
use Rattle.lk_tables.proofs.Passing.{both_pass, ok_from_none}
use Rattle.eh_frame.specs.FrameLaws.{HasPlain}
use Rattle.eh_frame.specs.RecordChecks.{is_inside, is_stray, record_checks}
use Rattle.eh_frame.specs.Sections.{bytes_of, frame_checks, stray_checks}
use Rattle.eh_frame.proofs.Places.{place_le, place_next}
use Rattle.eh_frame.proofs.Within.{any_in, fine_by, in_some, inside}

own_start : (c : List ℕ) (q : Reloc) (j i : ℕ) → is_inside c q i ≡ true → start_of c j ≤ q.offset → q.offset < end_at c (start_of c j) → 0 < place_width q → start_of c j + 8 ≤ q.offset
own_start c q j i e low high wide =
    let in_i = inside c q i e in
    let start : start_of c i + 8 ≤ q.offset = in_i.0 in
    let fits : q.offset + place_width q ≤ end_at c (start_of c i) = in_i.1 in
    elim (cases_lt i j) [
      | inl before ↦ omega (arith, place_next c i, place_le c (i + 1) j (omega (arith, before)), fits, low, wide)
      | inr rest ↦ elim (cases_lt j i) [
        | inl after ↦ omega (arith, place_next c j, place_le c (j + 1) i (omega (arith, after)), start, high)
        | inr le ↦
            let same : i ≡ j = omega (arith, rest, le) in
            subst (λ (n : ℕ). start_of c n + 8 ≤ q.offset) same start
      ]
    ]

starts_in : (c : List ℕ) (q : Reloc) (j : ℕ) → is_stray c q ≡ false → (nat_le (start_of c j) q.offset && nat_lt q.offset (end_at c (start_of c j))) ≡ true → has_width q ≡ true →
    start_of c j + 8 ≤ q.offset
unfolding is_stray
starts_in c q j fine here wide =
    let p = and_parts (nat_le (start_of c j) q.offset) (nat_lt q.offset (end_at c (start_of c j))) here in
    let some = any_in (is_inside c q) 0 (count c) (in_some (has_width q) (list_any (is_inside c q) (range_with_len 0 (count c))) fine wide) in
    own_start c q j some.0 some.1 (leb-true _ _ p.0) (ltb-true _ _ p.1) (ltb-true _ _ wide)

-- a number of 64 bits with its sign
signed_low : (n : ℕ) → negsuc (2 ^ 63) ≤ℤ cast_signed w64 n
signed_low n =
    elim (cases_Bool (nat_lt n (2 ^ 63))) [
      | inl low ↦
          let is : cast_signed w64 n ≡ pos n = cond-true (nat_lt n (2 ^ 63)) (pos n) (negsuc (2 ^ 64 - suc n)) low in
          omega (arith, ints, is)
      | inr high ↦
          let is : cast_signed w64 n ≡ negsuc (2 ^ 64 - suc n) = cond-false (nat_lt n (2 ^ 63)) (pos n) (negsuc (2 ^ 64 - suc n)) high in
          let le : 2 ^ 63 ≤ n = ltb-false n (2 ^ 63) high in
          omega (arith, ints, is, le)
    ]

low_read : (b : List ℕ) (at : ℕ) → negsuc (2 ^ 63) ≤ℤ (reloc_at b at).addend
unfolding reloc_at sxword_at
low_read b at = signed_low _

low_by : (b : List ℕ) (o : Option ℕ) → All (λ (q : Reloc). negsuc (2 ^ 63) ≤ℤ q.addend) (relocs_by b o)
low_by b None = All-nil (λ (q : Reloc). negsuc (2 ^ 63) ≤ℤ q.addend)
low_by b (Some rela) =
    All-map (λ (q : Reloc). negsuc (2 ^ 63) ≤ℤ q.addend) (reloc b rela) (in_order b rela) (λ k d lt. low_read b (rela_place b rela (get_or (in_order b rela) k d)))

one_plain : (c : List ℕ) (relocs : List Reloc) (j : ℕ) → All (λ (q : Reloc). is_stray c q ≡ false) relocs → All (λ (q : Reloc). negsuc (2 ^ 63) ≤ℤ q.addend) relocs →
    HasPlain (record_of c relocs j)
unfolding record_of relocs_in
one_plain c relocs j fine low =
    let test : Reloc → Bool = λ q. nat_le (start_of c j) q.offset && nat_lt q.offset (end_at c (start_of c j)) in
    let own = filter test relocs in
    let here : All (λ (q : Reloc). test q ≡ true) own = filter_passes test relocs in
    let sound_own : All (λ (q : Reloc). is_stray c q ≡ false) own = All-filter test (λ (q : Reloc). is_stray c q ≡ false) relocs fine in
    let low_own : All (λ (q : Reloc). negsuc (2 ^ 63) ≤ℤ q.addend) own = All-filter test (λ (q : Reloc). negsuc (2 ^ 63) ≤ℤ q.addend) relocs low in
    λ k d lt. record { after = λ wide. starts_in c (get_or own k d) j (sound_own k d lt) (here k d lt) wide; low = low_own k d lt }

pub records_plain : (b : List ℕ) (k : ℕ) → NoneBroken (frame_checks b k) → All HasPlain (records_of (bytes_of b k) (relocs_for b k))
unfolding frame_checks first_records
records_plain b k none =
    let c = bytes_of b k in
    let relocs = relocs_for b k in
    let checks = record_checks k (section_of b k).offset c relocs in
    let both = both_pass (from_on checks 0 (count c)) (stray_checks b c (rela_of b k)) (tt {0}) (tt {0}) (ok_from_none (frame_checks b k) (tt {0}) none) in
    let fine : All (λ (q : Reloc). is_stray c q ≡ false) relocs = fine_by b c (rela_of b k) both.1 in
    let long : length (map (record_of c relocs) (range_with_len 0 (count c))) ≡ count c = length-map-range_with_len (record_of c relocs) 0 (count c) in
    λ j d lt.
    let at : get_or (map (record_of c relocs) (range_with_len 0 (count c))) j d ≡ record_of c relocs j =
    get_or-map-range_with_len (record_of c relocs) 0 (count c) j j d (omega (arith, lt, long)) (omega arith) in
    subst (λ (r : RecordView). HasPlain r) (sym at) (one_plain c relocs j fine (low_by b (rela_of b k)))
