-- Relocations that lie in no record, and the entries of the file that they are.
use Rattle.std.proofs.Common.{◌≡◌, ℕ, zero, suc, ◌+◌, ◌<◌, ◌≤◌, ◌==◌, ◌&&◌, not, Bool, true, false, nat_lt, cond, List, [], ◌∷◌, length, map, get_or, Option, Some, None, refl, sym, ap, ◌∙◌, subst, arith, inl, inr, eqb-true, ltb-true}
use Rattle.std.specs.Prelude.{Ok, Err, find}
use Rattle.std.specs.List.{list_any, range_with_len}
use Rattle.std.proofs.lemmas.Bool.{and_left, and_parts, cases_eq}
use Rattle.std.proofs.lemmas.Bool.Decides.{nat_tests}
use Rattle.std.proofs.lemmas.List.{length-map}
use mathlib.Core.Path.{fun_ext}
use Rattle.lk_base.specs.declared.abi.TheConstants.{SHT_RELA}
use Rattle.lk_base.specs.declared.defects.Flaw.{Flaw}
use Rattle.lk_base.specs.declared.kinds.TheConstants.{BAD_FRAME}
use Rattle.lk_base.proofs.Membership.{any_through}
use Rattle.lk_tables.specs.declared.heads.Section.{Section}
use Rattle.lk_tables.specs.declared.objects.Reloc.{Reloc}
use Rattle.lk_tables.specs.Bodies.{rela_of, relocates}
use Rattle.lk_tables.specs.Checks.{flaw_at, passes}
use Rattle.lk_tables.specs.FileHeader.{section_count}
use Rattle.lk_tables.specs.Files.{no_reloc, no_section}
use Rattle.lk_tables.specs.Heads.{HeadView, head_of}
use Rattle.lk_tables.specs.Objects.{relocs_for, relocs_in}
use Rattle.lk_tables.specs.Relocations.{in_order, rela_place, reloc, relocs_of}
use Rattle.lk_tables.specs.Sections.{section_of, takes_relocs}
use Rattle.lk_tables.proofs.BodyFacts.{section_inside, sections_pass}
use Rattle.lk_tables.proofs.Ranges.{found}
use Rattle.lk_tables.proofs.SoundHead.{head_is}
use Rattle.lk_tables.specs.declared.records.Record.{Record}
use Rattle.lk_tables.specs.Records.{RecordView, count, first_records, has_width, record_of, records_of}
use Rattle.eh_frame.specs.RecordChecks.{is_inside, is_stray, lies_in}
use Rattle.eh_frame.specs.Sections.{is_rela_for, stray_check, stray_checks}
use Rattle.lk_tables.specs.RecordViews.{record_view, record_views}
use Rattle.eh_frame.proofs.HeadObject.{count_is, section_is}

none_broken : (b c : List ℕ) (rela : ℕ) (entries : List ℕ) →
    ((k : ℕ) → k < length entries → is_stray c (get_or (map (reloc b rela) entries) k no_reloc) ≡ false) → passes (map (stray_check b c rela) entries) ≡ Ok tt
none_broken b c rela [] fine = refl
none_broken b c rela (j ∷ js) fine =
    ap (λ x. cond x (Err (flaw_at BAD_FRAME rela (rela_place b rela j))) (passes (map (stray_check b c rela) js))) (fine 0 (omega arith))
    ∙ none_broken b c rela js (λ k lt. fine (suc k) (omega (arith, lt)))

first_broken : (b c : List ℕ) (rela : ℕ) (entries : List ℕ) (n : ℕ) → n < length entries →
    ((k : ℕ) → k < n → is_stray c (get_or (map (reloc b rela) entries) k no_reloc) ≡ false) → is_stray c (get_or (map (reloc b rela) entries) n no_reloc) ≡ true →
    passes (map (stray_check b c rela) entries) ≡ Err (flaw_at BAD_FRAME rela (rela_place b rela (get_or entries n 0)))
first_broken b c rela [] n lt fine bad = absurd (omega (arith, lt))
first_broken b c rela (j ∷ js) zero lt fine bad =
    ap (λ x. cond x (Err (flaw_at BAD_FRAME rela (rela_place b rela j))) (passes (map (stray_check b c rela) js))) bad
first_broken b c rela (j ∷ js) (suc n) lt fine bad =
    ap (λ x. cond x (Err (flaw_at BAD_FRAME rela (rela_place b rela j))) (passes (map (stray_check b c rela) js))) (fine 0 (omega arith))
    ∙ first_broken b c rela js n (omega (arith, lt)) (λ k less. fine (suc k) (omega (arith, less))) bad

-- no relocation of a section is stray
pub none_stray : (b c : List ℕ) (o : Option ℕ) → ((k : ℕ) → k < length (relocs_in b o) → is_stray c (get_or (relocs_in b o) k no_reloc) ≡ false) →
    passes (stray_checks b c o) ≡ Ok tt
none_stray b c None fine = refl
none_stray b c (Some rela) fine = none_broken b c rela (in_order b rela) (λ k lt. fine k (omega (arith, lt, length-map (in_order b rela) (reloc b rela))))

-- one is the first
pub first_stray : (b c : List ℕ) (rela n : ℕ) → n < length (relocs_of b rela) →
    ((k : ℕ) → k < n → is_stray c (get_or (relocs_of b rela) k no_reloc) ≡ false) → is_stray c (get_or (relocs_of b rela) n no_reloc) ≡ true →
    passes (stray_checks b c (Some rela)) ≡ Err (flaw_at BAD_FRAME rela (rela_place b rela (get_or (in_order b rela) n 0)))
first_stray b c rela n lt fine bad = first_broken b c rela (in_order b rela) n (omega (arith, lt, length-map (in_order b rela) (reloc b rela))) fine bad

-- a section with relocations has a relocation section, and its relocations are read
some_rela : (b : List ℕ) (o : Option ℕ) → 0 < length (relocs_in b o) → (rela : ℕ) × (o ≡ Some rela)
some_rela b None lt = absurd (omega (arith, lt))
some_rela b (Some rela) lt = (rela, refl)

pub has_rela : (b : List ℕ) (k : ℕ) → 0 < length (relocs_for b k) → (rela : ℕ) × (rela_of b k ≡ Some rela)
has_rela b k lt = some_rela b (rela_of b k) lt

pub takes_from : (b : List ℕ) (k rela : ℕ) → rela_of b k ≡ Some rela → (takes_relocs b k ≡ true) × (rela < section_count b)
unfolding rela_of relocates
takes_from b k rela e =
    let f = found (relocates b k) (section_count b) rela e in
    let one = and_parts (nat_lt 0 rela) ((section_of b rela).sh_type == SHT_RELA && ((section_of b rela).info == k && takes_relocs b k)) f.passes in
    let two = and_parts ((section_of b rela).sh_type == SHT_RELA) ((section_of b rela).info == k && takes_relocs b k) one.1 in
    let three = and_parts ((section_of b rela).info == k) (takes_relocs b k) two.1 in
    (three.1, omega (arith, f.high))

find_same : (p q : ℕ → Bool) (i n : ℕ) → ((k : ℕ) → i ≤ k → k < i + n → p k ≡ q k) → find p (range_with_len i n) ≡ find q (range_with_len i n)
find_same p q i zero same = refl
find_same p q i (suc n) same =
    ap (λ x. cond x (Some i) (find p (range_with_len (i + 1) n))) (same i (omega arith) (omega arith))
    ∙ ap (cond (q i) (Some i)) (find_same p q (i + 1) n (λ k low high. same k (omega (arith, low)) (omega (arith, high))))

and_true : (a b c t : Bool) → t ≡ true → (a && (b && (c && t))) ≡ (a && (b && c))
and_true true true true t e = e
and_true true true false t e = refl
and_true true false c t e = refl
and_true false b c t e = refl

rela_same : (b : List ℕ) (head : HeadView) (k r : ℕ) → head_of b ≡ Ok head → takes_relocs b k ≡ true → r < length head.sections →
    relocates b k r ≡ is_rela_for head.sections k r
unfolding relocates is_rela_for
rela_same b head k r e takes lt =
    and_true (nat_lt 0 r) ((section_of b r).sh_type == SHT_RELA) ((section_of b r).info == k) (takes_relocs b k) takes
    ∙ ap (λ (s : Section). nat_lt 0 r && (s.sh_type == SHT_RELA && s.info == k)) (sym (section_is b head r no_section e lt))

-- the first section of the table that has them is that one
pub rela_found : (b : List ℕ) (head : HeadView) (k : ℕ) → head_of b ≡ Ok head → 0 < length (relocs_for b k) →
    find (is_rela_for head.sections k) (range_with_len 0 (length head.sections)) ≡ rela_of b k
unfolding rela_of
rela_found b head k e lt =
    let has = has_rela b k lt in
    let takes = (takes_from b k has.0 has.1).0 in
    sym (find_same (relocates b k) (is_rela_for head.sections k) 0 (length head.sections)
    (λ r low high. rela_same b head k r e takes (omega (arith, high))))
    ∙ ap (λ n. find (relocates b k) (range_with_len 0 n)) (count_is b head e)

-- of numbers of which none is found, none passes
none_at : (p : ℕ → Bool) (i n k : ℕ) (b : Bool) → p i ≡ b → None ≡ cond b (Some i) (find p (range_with_len (i + 1) n)) →
    (None ≡ find p (range_with_len (i + 1) n) → i + 1 ≤ k → p k ≡ false) → i ≤ k → p k ≡ false
none_at p i n k true is e rest low = cc
none_at p i n k false is e rest low = elim (cases_eq k i) [
  | inl same ↦ ap p same ∙ is
  | inr other ↦ rest e (omega (arith, low, other))
]

none_found : (p : ℕ → Bool) (i n k : ℕ) → None ≡ find p (range_with_len i n) → i ≤ k → k < i + n → p k ≡ false
none_found p i zero k e low high = absurd (omega (arith, low, high))
none_found p i (suc n) k e low high = none_at p i n k (p i) refl e (λ rest le. none_found p (i + 1) n k rest le (omega (arith, high))) low

-- the first number that passes, and those before it do not
before_at : (p : ℕ → Bool) (i n k j : ℕ) (b : Bool) → p i ≡ b → cond b (Some i) (find p (range_with_len (i + 1) n)) ≡ Some k →
    (find p (range_with_len (i + 1) n) ≡ Some k → i + 1 ≤ j → p j ≡ false) → i ≤ j → j < k → p j ≡ false
before_at p i n k j true is e rest low lt =
    let same : i ≡ k = cc in
    absurd (omega (arith, same, low, lt))
before_at p i n k j false is e rest low lt = elim (cases_eq j i) [
  | inl same ↦ ap p same ∙ is
  | inr other ↦ rest e (omega (arith, low, other))
]

before_found : (p : ℕ → Bool) (i n k j : ℕ) → find p (range_with_len i n) ≡ Some k → i ≤ j → j < k → p j ≡ false
before_found p i zero k j e low lt = cc
before_found p i (suc n) k j e low lt = before_at p i n k j (p i) refl e (λ rest le. before_found p (i + 1) n k j rest le lt) low lt

first_at : (p : ℕ → Bool) (n k : ℕ) → Some k ≡ find p (range_with_len 0 n) → (p k ≡ true) × ((j : ℕ) → j < k → p j ≡ false)
first_at p n k e = ((found p n k (sym e)).passes, λ j lt. before_found p 0 n k j (sym e) (omega arith) lt)

-- no relocation of section k is stray
pub all_fine : (b c : List ℕ) (k : ℕ) (relocs : List Reloc) → relocs ≡ relocs_for b k →
    None ≡ find (λ j. is_stray c (get_or relocs j no_reloc)) (range_with_len 0 (length relocs)) → passes (stray_checks b c (rela_of b k)) ≡ Ok (tt {0})
all_fine b c k relocs is none =
    let p : List Reloc → ℕ → Bool = λ rs j. is_stray c (get_or rs j no_reloc) in
    let P : List Reloc → Type 0 = λ rs. (j : ℕ) → j < length rs → p rs j ≡ false in
    none_stray b c (rela_of b k) (subst P is (λ j lt. none_found (p relocs) 0 (length relocs) j none (omega arith) (omega (arith, lt))))

-- the section of the table that is found is its relocation section
found_is : (b : List ℕ) (head : HeadView) (k : ℕ) (relocs : List Reloc) (n : ℕ) (sections : List Section) (o : Option ℕ) → head_of b ≡ Ok head →
    relocs ≡ relocs_for b k → n < length relocs → sections ≡ head.sections →
    o ≡ find (is_rela_for sections k) (range_with_len 0 (length sections)) → o ≡ rela_of b k
found_is b head k relocs n sections o e is lt same told =
    told ∙ ap (λ (l : List Section). find (is_rela_for l k) (range_with_len 0 (length l))) same
    ∙ rela_found b head k e (omega (arith, lt, ap length is))

pub there_is_one : (b : List ℕ) (head : HeadView) (k : ℕ) (relocs : List Reloc) (n : ℕ) (sections : List Section) → head_of b ≡ Ok head →
    relocs ≡ relocs_for b k → n < length relocs → sections ≡ head.sections →
    None ≡ find (is_rela_for sections k) (range_with_len 0 (length sections)) → ⊥
there_is_one b head k relocs n sections e is lt same told =
    let has = has_rela b k (omega (arith, lt, ap length is)) in
    let none : None ≡ Some has.0 = found_is b head k relocs n sections None e is lt same told ∙ has.1 in
    cc

pub is_found : (b : List ℕ) (head : HeadView) (k : ℕ) (relocs : List Reloc) (n : ℕ) (sections : List Section) (rela : ℕ) → head_of b ≡ Ok head →
    relocs ≡ relocs_for b k → n < length relocs → sections ≡ head.sections →
    Some rela ≡ find (is_rela_for sections k) (range_with_len 0 (length sections)) → rela_of b k ≡ Some rela
is_found b head k relocs n sections rela e is lt same told = sym (found_is b head k relocs n sections (Some rela) e is lt same told)

-- it stands in the table
pub rela_is : (b : List ℕ) (head : HeadView) (k rela : ℕ) → head_of b ≡ Ok head → rela_of b k ≡ Some rela → rela < length head.sections
rela_is b head k rela e is = omega (arith, (takes_from b k rela is).1, count_is b head e)

rela_kind : (b : List ℕ) (k rela : ℕ) → rela_of b k ≡ Some rela → (0 < rela) × ((section_of b rela).sh_type ≡ SHT_RELA)
unfolding rela_of relocates
rela_kind b k rela e =
    let f = found (relocates b k) (section_count b) rela e in
    let one = and_parts (nat_lt 0 rela) ((section_of b rela).sh_type == SHT_RELA && ((section_of b rela).info == k && takes_relocs b k)) f.passes in
    let two = and_parts ((section_of b rela).sh_type == SHT_RELA) ((section_of b rela).info == k && takes_relocs b k) one.1 in
    (ltb-true _ _ one.0, eqb-true _ _ two.0)

pub record IsRela (b : List ℕ) (rela : ℕ) (s : Section) : Type 0 where
  pub is : s ≡ section_of b rela
  pub within : s.offset + s.size ≤ length b

pub rela_facts : (b : List ℕ) (head : HeadView) (k rela : ℕ) (s : Section) (sections : List Section) → head_of b ≡ Ok head → rela_of b k ≡ Some rela →
    sections ≡ head.sections → s ≡ get_or sections rela no_section → IsRela b rela s
rela_facts b head k rela s sections e is same read =
    let kind = rela_kind b k rela is in
    let low : 0 < rela = kind.0 in
    let sort : (section_of b rela).sh_type ≡ SHT_RELA = kind.1 in
    let own : s ≡ section_of b rela =
    read ∙ ap (λ (l : List Section). get_or l rela no_section) same ∙ section_is b head rela no_section e (rela_is b head k rela e is) in
    let inside : (section_of b rela).offset + (section_of b rela).size ≤ length b =
    section_inside b rela (sections_pass b head (head_is b head e)) low (takes_from b k rela is).1 (λ z. absurd (omega (arith, sort, z))) (λ z. absurd (omega (arith, sort, z))) in
    record { is = own; within = omega (arith, inside, ap (λ (t : Section). t.offset) own, ap (λ (t : Section). t.size) own) }

relocs_by : (b : List ℕ) (k : ℕ) (relocs : List Reloc) (rela : ℕ) → relocs ≡ relocs_for b k → rela_of b k ≡ Some rela → relocs ≡ relocs_of b rela
relocs_by b k relocs rela is e = is ∙ ap (relocs_in b) e

pub in_entries : (b : List ℕ) (k : ℕ) (relocs : List Reloc) (rela n : ℕ) → relocs ≡ relocs_for b k → rela_of b k ≡ Some rela → n < length relocs → n < length (in_order b rela)
in_entries b k relocs rela n is e lt = omega (arith, lt, ap length (relocs_by b k relocs rela is e), length-map (in_order b rela) (reloc b rela))

-- the first that is stray
pub stray_is_first : (b c : List ℕ) (k : ℕ) (relocs : List Reloc) (rela n place : ℕ) (flaw : Flaw) → relocs ≡ relocs_for b k → rela_of b k ≡ Some rela → n < length relocs →
    Some n ≡ find (λ j. is_stray c (get_or relocs j no_reloc)) (range_with_len 0 (length relocs)) → place ≡ rela_place b rela (get_or (in_order b rela) n 0) →
    flaw ≡ flaw_at BAD_FRAME rela place → passes (stray_checks b c (rela_of b k)) ≡ Err flaw
stray_is_first b c k relocs rela n place flaw is e lt told at says =
    let p : List Reloc → ℕ → Bool = λ rs j. is_stray c (get_or rs j no_reloc) in
    let same = relocs_by b k relocs rela is e in
    let first = first_at (p relocs) (length relocs) n told in
    let fine : (j : ℕ) → j < n → p relocs j ≡ false = first.1 in
    ap (λ o. passes (stray_checks b c o)) e
    ∙ first_stray b c rela n (omega (arith, lt, ap length same)) (λ j less. sym (ap (λ rs. p rs j) same) ∙ fine j less) (sym (ap (λ rs. p rs n) same) ∙ first.0)
    ∙ ap Err (sym (says ∙ ap (flaw_at BAD_FRAME rela) at))

-- whether a section of a table has the relocations of another
pub first_is_none : (sections : List Section) (k r : ℕ) → r ≡ 0 → false ≡ is_rela_for sections k r
unfolding is_rela_for
first_is_none sections k r is =
    let s : ℕ → Section = λ n. get_or sections n no_section in
    sym (ap (λ n. nat_lt 0 n && ((s n).sh_type == SHT_RELA && (s n).info == k)) is)

pub is_rela_from : (sections : List Section) (k r : ℕ) (b : Bool) (s : Section) → 0 < r → s ≡ get_or sections r no_section → b ≡ (s.sh_type == SHT_RELA && s.info == k) →
    b ≡ is_rela_for sections k r
unfolding is_rela_for
is_rela_from sections k r b s low is told =
    let some : nat_lt 0 r ≡ true = grind (arith, nat_tests) in
    let tests : Section → Bool = λ t. t.sh_type == SHT_RELA && t.info == k in
    told ∙ ap tests is ∙ sym (ap (λ x. x && tests (get_or sections r no_section)) some)

-- a relocation is stray if it has bytes which lie in none of the records
abbrev lies : Reloc → RecordView → Bool
lies r v = lies_in r v.from v.len

inside_is : (c : List ℕ) (relocs : List Reloc) (r : Reloc) (j : ℕ) → lies r (record_of c relocs j) ≡ is_inside c r j
unfolding record_of is_inside
inside_is c relocs r j = refl

lies_as : (c : List ℕ) (relocs : List Reloc) (r : Reloc) (records : List Record) → record_views records ≡ records_of c relocs →
    list_any (λ (x : Record). lies_in r x.from x.len) records
    ≡ list_any (is_inside c r) (range_with_len 0 (count c))
unfolding first_records
lies_as c relocs r records is =
    sym (any_through (lies r) record_view records) ∙ ap (list_any (lies r)) is ∙ any_through (lies r) (record_of c relocs) (range_with_len 0 (count c))
    ∙ ap (λ f. list_any f (range_with_len 0 (count c))) (fun_ext λ j. inside_is c relocs r j)

pub none_wide : (c : List ℕ) (r : Reloc) (b : Bool) → b ≡ has_width r → b ≡ false → false ≡ is_stray c r
unfolding is_stray
none_wide c r b is none = sym (and_left (has_width r) (not (list_any (is_inside c r) (range_with_len 0 (count c)))) (sym is ∙ none))

pub stray_is : (c : List ℕ) (relocs : List Reloc) (records : List Record) (r : Reloc) (b any : Bool) → record_views records ≡ records_of c relocs → b ≡ has_width r → b ≡ true →
    any ≡ list_any (λ (x : Record). lies_in r x.from x.len) records → not any ≡ is_stray c r
unfolding is_stray
stray_is c relocs records r b any is wide some told =
    ap not (told ∙ lies_as c relocs r records is)
    ∙ sym (ap (λ w. w && not (list_any (is_inside c r) (range_with_len 0 (count c)))) (sym wide ∙ some))
