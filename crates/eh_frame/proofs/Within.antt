-- Of a section in which no check is broken: its records lie within it, and the bytes of their relocations within them.
use Rattle.std.proofs.Common.{◌≡◌, ℕ, zero, suc, ◌+◌, ◌<◌, ◌≤◌, ◌&&◌, not, Bool, true, false, nat_lt, nat_le, cond, List, [], ◌∷◌, length, map, get_or, Option, Some, None, refl, sym, subst, arith, inl, inr, leb-true, ltb-true}
use Rattle.std.specs.Prelude.{Ok}
use Rattle.std.specs.List.{All, AllByRecursion, filter, list_any, range_with_len}
use Rattle.std.proofs.lemmas.Bool.{and_parts, cases_lt, or_cases, or_parts}
use Rattle.std.proofs.lemmas.List.Elements.{All-filter, All-from_recursion, All-nil, filter_passes}
use Rattle.std.proofs.lemmas.List.FromFn.{get_or-map-range_with_len, length-map-range_with_len}
use Rattle.lk_base.specs.declared.kinds.TheConstants.{BAD_FRAME}
use Rattle.lk_tables.specs.declared.objects.Reloc.{Reloc}
use Rattle.lk_tables.specs.Bodies.{rela_of}
use Rattle.lk_tables.specs.Checks.{◌says◌, NoneBroken, flaw_at, from_on, passes}
use Rattle.lk_tables.specs.Frames.{IsRecordWithin}
use Rattle.lk_tables.specs.Objects.{relocs_for, relocs_in as relocs_by}
use Rattle.lk_tables.specs.Records.{cie_before, cie_of, count, end_at, first_records, has_width, is_cie, is_pointed_to, start_of, record_of, records_of, relocs_in}
use Rattle.lk_tables.specs.Relocations.{in_order, place_width, reloc, relocs_of}
use Rattle.lk_tables.specs.Sections.{section_of}
use Rattle.lk_tables.proofs.Passing.{both_pass, each, line_passes, ok_from_none}
use Rattle.lk_tables.proofs.Ranges.{found}
use Rattle.eh_frame.specs.RecordChecks.{is_bad_fde, is_bad_length, is_bad_record, is_inside, is_stray, record_checks}
use Rattle.eh_frame.specs.Sections.{bytes_of, frame_checks, stray_check, stray_checks}
use Rattle.eh_frame.proofs.Lengths.{whole_from}
use Rattle.eh_frame.proofs.Places.{count_most, place_le, place_next}

-- what the checks say of a record and of a relocation
sound_record : (section offset : ℕ) (c : List ℕ) (relocs : List Reloc) (j : ℕ) → passes (record_checks section offset c relocs j) ≡ Ok (tt {0}) → is_bad_record c relocs j ≡ false
unfolding record_checks
sound_record section offset c relocs j e =
    (line_passes (is_bad_record c relocs j says flaw_at BAD_FRAME section (offset + start_of c j)) [] (tt {0}) (tt {0}) e).0

fine_entries : (b c : List ℕ) (rela : ℕ) (entries : List ℕ) → passes (map (stray_check b c rela) entries) ≡ Ok (tt {0}) →
    AllByRecursion (λ (q : Reloc). is_stray c q ≡ false) (map (reloc b rela) entries)
fine_entries b c rela [] e = tt
fine_entries b c rela (j ∷ js) e =
    let p = line_passes (stray_check b c rela j) (map (stray_check b c rela) js) (tt {0}) (tt {0}) e in
    (p.0, fine_entries b c rela js p.1)

pub fine_by : (b c : List ℕ) (o : Option ℕ) → passes (stray_checks b c o) ≡ Ok (tt {0}) → All (λ (q : Reloc). is_stray c q ≡ false) (relocs_by b o)
fine_by b c None e = All-nil (λ (q : Reloc). is_stray c q ≡ false)
fine_by b c (Some rela) e = All-from_recursion (λ (q : Reloc). is_stray c q ≡ false) (relocs_of b rela) (fine_entries b c rela (in_order b rela) e)

-- the record in which a relocation's bytes lie is the one in which it lies itself
pub any_in : (p : ℕ → Bool) (i n : ℕ) → list_any p (range_with_len i n) ≡ true → (k : ℕ) × (p k ≡ true)
any_in p i zero e = let no : ⊥ = cc in absurd no
any_in p i (suc n) e = elim (or_cases (p i) (list_any p (range_with_len (i + 1) n)) e) [
  | inl here ↦ (i, here)
  | inr later ↦ any_in p (i + 1) n later
]

pub in_some : (w a : Bool) → (w && not a) ≡ false → w ≡ true → a ≡ true
in_some true true e is = refl
in_some true false e is = cc
in_some false a e is = cc

pub inside : (c : List ℕ) (q : Reloc) (i : ℕ) → is_inside c q i ≡ true → (start_of c i + 8 ≤ q.offset) × (q.offset + place_width q ≤ end_at c (start_of c i))
unfolding is_inside
inside c q i e =
    let p = and_parts (nat_le (start_of c i + 8) q.offset) (nat_le (q.offset + place_width q) (end_at c (start_of c i))) e in
    (leb-true _ _ p.0, leb-true _ _ p.1)

own_record : (c : List ℕ) (q : Reloc) (j i : ℕ) → is_inside c q i ≡ true → start_of c j ≤ q.offset → q.offset < end_at c (start_of c j) → 0 < place_width q →
    q.offset + place_width q ≤ end_at c (start_of c j)
own_record c q j i e low high wide =
    let in_i = inside c q i e in
    let start : start_of c i + 8 ≤ q.offset = in_i.0 in
    let fits : q.offset + place_width q ≤ end_at c (start_of c i) = in_i.1 in
    elim (cases_lt i j) [
      | inl before ↦ omega (arith, place_next c i, place_le c (i + 1) j (omega (arith, before)), fits, low, wide)
      | inr rest ↦ elim (cases_lt j i) [
        | inl after ↦ omega (arith, place_next c j, place_le c (j + 1) i (omega (arith, after)), start, high)
        | inr le ↦
            let same : i ≡ j = omega (arith, rest, le) in
            subst (λ (n : ℕ). q.offset + place_width q ≤ end_at c (start_of c n)) same fits
      ]
    ]

fits_in : (c : List ℕ) (q : Reloc) (j : ℕ) → is_stray c q ≡ false → (nat_le (start_of c j) q.offset && nat_lt q.offset (end_at c (start_of c j))) ≡ true → has_width q ≡ true →
    q.offset + place_width q ≤ end_at c (start_of c j)
unfolding is_stray
fits_in c q j fine here wide =
    let p = and_parts (nat_le (start_of c j) q.offset) (nat_lt q.offset (end_at c (start_of c j))) here in
    let some = any_in (is_inside c q) 0 (count c) (in_some (has_width q) (list_any (is_inside c q) (range_with_len 0 (count c))) fine wide) in
    own_record c q j some.0 some.1 (leb-true _ _ p.0) (ltb-true _ _ p.1) (ltb-true _ _ wide)

-- its CIE stands before an FDE
low_by : (b : Bool) (o : Option ℕ) (j k : ℕ) → (o ≡ Some k → k < j) → cond b None o ≡ Some k → k < j
low_by true o j k h e = let no : ⊥ = cc in absurd no
low_by false o j k h e = h e

cie_low : (c : List ℕ) (j k : ℕ) → cie_of c j ≡ Some k → k < j
unfolding cie_before
cie_low c j k e = low_by (is_cie c (start_of c j)) (cie_before c j) j k (λ is. omega (arith, (found (is_pointed_to c j) j k is).high)) e

long_enough : (c : List ℕ) (relocs : List Reloc) (j : ℕ) → is_bad_record c relocs j ≡ false → is_bad_length c (start_of c j) ≡ false
unfolding is_bad_record
long_enough c relocs j e = (or_parts (is_bad_length c (start_of c j)) (not (is_cie c (start_of c j)) && is_bad_fde c relocs j) e).0

one_within : (c : List ℕ) (relocs : List Reloc) (n j : ℕ) → is_bad_record c relocs j ≡ false → All (λ (q : Reloc). is_stray c q ≡ false) relocs → j < n →
    IsRecordWithin (length c) n (record_of c relocs j)
unfolding record_of relocs_in
one_within c relocs n j sound fine lt =
    let whole = whole_from c (start_of c j) (long_enough c relocs j sound) in
    let test : Reloc → Bool = λ q. nat_le (start_of c j) q.offset && nat_lt q.offset (end_at c (start_of c j)) in
    let own = filter test relocs in
    let here : All (λ (q : Reloc). test q ≡ true) own = filter_passes test relocs in
    let sound_own : All (λ (q : Reloc). is_stray c q ≡ false) own = All-filter test (λ (q : Reloc). is_stray c q ≡ false) relocs fine in
    record {
      bytes = whole.2;
      least = whole.1;
      cie = λ k e. omega (arith, cie_low c j k e, lt);
      after = λ k d low. leb-true _ _ (and_parts (nat_le (start_of c j) (get_or own k d).offset) (nat_lt (get_or own k d).offset (end_at c (start_of c j))) (here k d low)).0;
      places = λ k d low wide. fits_in c (get_or own k d) j (sound_own k d low) (here k d low) wide;
    }

pub records_within : (b : List ℕ) (k : ℕ) → NoneBroken (frame_checks b k) →
    All (IsRecordWithin (length (bytes_of b k)) (length (records_of (bytes_of b k) (relocs_for b k)))) (records_of (bytes_of b k) (relocs_for b k))
unfolding frame_checks first_records
records_within b k none =
    let c = bytes_of b k in
    let relocs = relocs_for b k in
    let checks = record_checks k (section_of b k).offset c relocs in
    let own = from_on checks 0 (count c) in
    let strays = stray_checks b c (rela_of b k) in
    let both = both_pass own strays (tt {0}) (tt {0}) (ok_from_none (frame_checks b k) (tt {0}) none) in
    let fine : All (λ (q : Reloc). is_stray c q ≡ false) relocs = fine_by b c (rela_of b k) both.1 in
    let long : length (map (record_of c relocs) (range_with_len 0 (count c))) ≡ count c = length-map-range_with_len (record_of c relocs) 0 (count c) in
    λ j d lt.
    let low : j < count c = omega (arith, lt, long) in
    let at : get_or (map (record_of c relocs) (range_with_len 0 (count c))) j d ≡ record_of c relocs j = get_or-map-range_with_len (record_of c relocs) 0 (count c) j j d low (omega arith) in
    subst (IsRecordWithin (length c) (length (map (record_of c relocs) (range_with_len 0 (count c))))) (sym at)
    (one_within c relocs (length (map (record_of c relocs) (range_with_len 0 (count c)))) j
    (sound_record k (section_of b k).offset c relocs j (each checks 0 (count c) j both.0 (omega arith) low)) fine lt)

pub few_records : (b : List ℕ) (k : ℕ) → length (records_of (bytes_of b k) (relocs_for b k)) ≤ length (bytes_of b k)
unfolding first_records
few_records b k =
    omega (arith, count_most (bytes_of b k), length-map-range_with_len (record_of (bytes_of b k) (relocs_for b k)) 0 (count (bytes_of b k)))
