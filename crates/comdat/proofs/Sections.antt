-- The sections that are marked are those that are discarded.
use Rattle.std.proofs.Common.{◌≡◌, ℕ, zero, suc, ◌+◌, ◌-◌, ◌<◌, ◌≤◌, ◌==◌, ◌&&◌, nat_lt, Bool, true, false, if◌then◌else◌, List, [], length, get_or, replicate, All, Contains, refl, sym, ap, ◌∙◌, subst, ⊎_elim, inl, inr, arith}
use Rattle.std.specs.Prelude.{flat_map}
use Rattle.std.specs.Cmp.{both_ways as same_answer}
use Rattle.std.specs.List.{list_any, range_with_len}
use Rattle.std.proofs.lemmas.List.{ext_get_or, get_or_default, length-replicate}
use Rattle.std.proofs.lemmas.List.Elements.{All-contains, Contains-get_or}
use Rattle.std.proofs.lemmas.Bool.{and_parts, and_from, cases_lt, cases_order, eqb-true, eq-eqb, ltb-true, lt-ltb}
use Rattle.lk_base.proofs.Membership.{any_from, in_flat}
use Rattle.lk_base.proofs.Ranges.{same_range}
use Rattle.lk_tables.specs.Files.{File, by_section, file_at, first_section, section_count, section_no, section_total}
use Rattle.lk_tables.proofs.BoundHas.{each_if, one_if}
use Rattle.lk_tables.proofs.ByNumber.{length_by_section, read_by_section}
use Rattle.lk_tables.proofs.FirstNumbers.{section_more, section_upto, section_within}
use Rattle.lk_tables.proofs.LiveFiles.{counted}
use Rattle.name_numbers.proofs.Walks.{all_range, in_if, in_range}
use Rattle.lk_tables.specs.Reach.{with_marked}
use Rattle.lk_tables.proofs.Marking.{length_marked}
use Rattle.comdat.specs.Discarded.{Comdat, comdats, discarded, discards, goes, has_member}
use Rattle.comdat.specs.Marks.{IsOfFiles, beaten, beaten_at, beaten_members, member_no, members_of}
use Rattle.comdat.specs.Signatures.{group_at, no_comdat}
use Rattle.comdat.proofs.GroupLists.{all_flat, any_of, comdats_of_files, in_when}
use Rattle.comdat.proofs.Marking.{marks_has, marks_only_these}

-- a section of a file's own table has a number
pub counts : (file : File) (k : ℕ) → file.live ≡ true → k < length file.head.sections → k < section_count file
counts file k live lt = omega (arith, counted file live)

pub number_within : (files : List File) (g : Comdat) (k : ℕ) → IsOfFiles files g → k < length (file_at files g.file).head.sections → section_no files g.file k < section_total files
number_within files g k is lt =
    let own = counts (file_at files g.file) k is.live lt in
    omega (arith, section_within files g.file is.within)

-- the section of a number
record IsOwner (files : List File) (s : ℕ) : Type 0 where
  file : ℕ
  section : ℕ
  within : file < length files
  inside : section < section_count (file_at files file)
  is : section_no files file section ≡ s

owner_below : (files : List File) (n s : ℕ) → n ≤ length files → s < first_section files n → IsOwner files s
owner_below files zero s le lt = absurd (omega arith)
owner_below files (suc n) s le lt = ⊎_elim
    (λ (early : s < first_section files n). owner_below files n s (omega arith) early)
    (λ (late : first_section files n ≤ s).
    let e : suc n ≡ n + 1 = omega arith in
    let next : first_section files (suc n) ≡ first_section files (n + 1) = ap (first_section files) e in
    record { file = n; section = s - first_section files n; within = omega arith; inside = omega (arith, section_more files n (omega arith)); is = omega arith })
    (cases_lt s (first_section files n))

-- two sections have two numbers
same_place : (files : List File) (f k g j : ℕ) → f < length files → g < length files → k < section_count (file_at files f) → j < section_count (file_at files g) →
    section_no files g j ≡ section_no files f k → (g ≡ f) × (j ≡ k)
same_place files f k g j lt less below under is = elim (cases_order g f) [
  | inl same ↦ (same, omega (arith, is, ap (first_section files) same))
  | inr apart ↦ elim apart [
    | inl low ↦ absurd (omega (arith, is, under, section_more files g less, section_upto files (g + 1) f (omega (arith, low))))
    | inr high ↦ absurd (omega (arith, is, below, section_more files f lt, section_upto files (f + 1) g (omega (arith, high))))
  ]
]

-- the members of the groups that go
abbrev gone_at : List File → List Comdat → ℕ → List ℕ
gone_at files groups j = if goes groups (group_at groups j) then members_of files (group_at groups j) else []

abbrev gone : List File → List Comdat → List ℕ
gone files groups = flat_map (gone_at files groups) (range_with_len 0 (length groups))

beaten_gone : (files : List File) (groups : List Comdat) (ns : List ℕ) → ((j : ℕ) → j < length groups → beaten ns j ≡ goes groups (group_at groups j)) →
    beaten_members files groups ns ≡ gone files groups
unfolding beaten_members
beaten_gone files groups ns same =
    same_range (beaten_at files groups ns) (gone_at files groups) 0 (length groups)
    (λ j low high. ap (λ b. if b then members_of files (group_at groups j) else []) (same j (omega arith)))

module _ (files : List File) (f k : ℕ) (lt : f < length files) (inside : k < section_count (file_at files f)) where
  abbrev member_goes : Comdat → Bool
  member_goes g = has_member f k g && goes (comdats files) g

  gone_has : discards files f k ≡ true → Contains (gone files (comdats files)) (section_no files f k)
  unfolding discards members_of
  gone_has is =
      let groups = comdats files in
      let s = section_no files f k in
      let both = and_parts (nat_lt k (length (file_at files f).head.sections)) (list_any member_goes groups) is in
      let found = any_of member_goes groups both.1 in
      let g : Comdat = found.0 in
      let parts = and_parts (has_member f k g) (goes groups g) found.1.1 in
      let member = and_parts (g.file == f) (list_any (λ m. m == k) g.members) parts.0 in
      let file : g.file ≡ f = eqb-true g.file f member.0 in
      let one = any_of (λ m. m == k) g.members member.1 in
      let m : ℕ = one.0 in
      let section : m ≡ k = eqb-true m k one.1.1 in
      let below : Contains (member_no files f k) s = in_if (nat_lt k (length (file_at files f).head.sections)) s both.0 in
      let P : ℕ → Type 0 = λ e. Contains (member_no files e m) s in
      let Q : ℕ → Type 0 = λ j. Contains (member_no files f j) s in
      let in_group : Contains (members_of files g) s = in_flat (member_no files g.file) g.members m s one.1.0 (subst P (sym file) (subst Q (sym section) below)) in
      let j : ℕ = found.1.0.0 in
      let at : group_at groups j ≡ g = get_or_default groups j no_comdat g found.1.0.1 ∙ found.1.0.2 in
      let R : Comdat → Type 0 = λ h. Contains (if goes groups h then members_of files h else []) s in
      in_range (gone_at files groups) 0 (length groups) j s (omega arith) (omega (arith, found.1.0.1))
      (subst R (sym at) (in_when (goes groups g) (members_of files g) s parts.1 in_group))

  gone_only : Contains (gone files (comdats files)) (section_no files f k) → discards files f k ≡ true
  unfolding discards members_of
  gone_only has =
      let groups = comdats files in
      let P : ℕ → Type 0 = λ s. s ≡ section_no files f k → discards files f k ≡ true in
      let each : All P (gone files groups) =
      all_range P (gone_at files groups) 0 (length groups) (λ j low high.
      let g = group_at groups j in
      let listed : Contains groups g = Contains-get_or groups j no_comdat (omega arith) in
      let own : IsOfFiles files g = All-contains (IsOfFiles files) groups g (comdats_of_files files) listed in
      each_if P (goes groups g) (members_of files g) (λ goes_is.
      all_flat P (member_no files g.file) g.members (λ m member.
      one_if P (nat_lt m (length (file_at files g.file).head.sections)) (section_no files g.file m) (λ below same.
      let less : m < length (file_at files g.file).head.sections = ltb-true m (length (file_at files g.file).head.sections) below in
      let e = same_place files f k g.file m lt own.within inside (counts (file_at files g.file) m own.live less) same in
      let Q : ℕ → Type 0 = λ h. m < length (file_at files h).head.sections in
      let here : m < length (file_at files f).head.sections = subst Q e.0 less in
      let section = e.1 in
      let has_it : has_member f k g ≡ true = and_from (g.file == f) (list_any (λ i. i == k) g.members) (eq-eqb g.file f e.0) (any_from (λ i. i == k) g.members m member (eq-eqb m k e.1)) in
      and_from (nat_lt k (length (file_at files f).head.sections)) (list_any member_goes groups)
      (lt-ltb k (length (file_at files f).head.sections) (omega arith))
      (any_from member_goes groups g listed (and_from (has_member f k g) (goes groups g) has_it goes_is)))))) in
      All-contains P (gone files groups) (section_no files f k) each has refl

-- the marks of the members of groups that go, by number
marks_discarded : (files : List File) (marks : List Bool) → marks ≡ with_marked (replicate (section_total files) false) (gone files (comdats files)) → marks ≡ discarded files
unfolding discarded
marks_discarded files marks is =
    let n = section_total files in
    let ss = gone files (comdats files) in
    let wide : length marks ≡ n = ap length is ∙ length_marked (replicate n false) ss ∙ length-replicate {A = Bool} n false in
    ext_get_or false marks (by_section files (discards files)) (wide ∙ sym (length_by_section files (discards files))) (λ s lt.
    let o = owner_below files (length files) s (omega arith) (omega arith) in
    let P : ℕ → Type 0 = λ t. get_or marks t false ≡ get_or (by_section files (discards files)) t false in
    let at : ℕ = section_no files o.file o.section in
    let low : at < n = omega (arith, o.is) in
    let read = ap (λ l. get_or l at false) is in
    subst P o.is
    (same_answer (get_or marks at false) (discards files o.file o.section)
    (λ marks_it. gone_only files o.file o.section o.within o.inside (marks_only_these n ss at low (sym read ∙ marks_it)))
    (λ goes_it. read ∙ marks_has (replicate n false) ss at (omega (arith, length-replicate {A = Bool} n false)) (gone_has files o.file o.section o.within o.inside goes_it))
    ∙ sym (read_by_section files (discards files) o.file o.section false o.within o.inside)))

-- of a link that has no groups, and of one that has some
pub none_discarded : (files : List File) (marks : List Bool) → comdats files ≡ [] → marks ≡ replicate (section_total files) false → marks ≡ discarded files
none_discarded files marks none is =
    marks_discarded files marks (is ∙ ap (λ l. with_marked (replicate (section_total files) false) (gone files l)) (sym none))

pub some_discarded : (files : List File) (groups : List Comdat) (ns : List ℕ) (start marks : List Bool) → groups ≡ comdats files →
    ((j : ℕ) → j < length groups → beaten ns j ≡ goes groups (group_at groups j)) →
    start ≡ replicate (section_total files) false → marks ≡ with_marked start (beaten_members files groups ns) → marks ≡ discarded files
some_discarded files groups ns start marks are same was is =
    marks_discarded files marks
    (is ∙ ap (λ l. with_marked l (beaten_members files groups ns)) was ∙ ap (with_marked (replicate (section_total files) false)) (beaten_gone files groups ns same ∙ ap (gone files) are))
