-- The groups and the marks of their members, as they are read from one section to the next.
use Rattle.std.proofs.Common.{◌≡◌, ℕ, suc, ◌+◌, ◌<◌, ◌≤◌, drop, Bool, true, false, cond, ◌&&◌, ◌||◌, ◌==◌, nat_lt, length, get_or, set, replicate, List, [], ◌∷◌, ◌++◌, map, refl, sym, ap, ◌∙◌, arith, inl, inr}
use Rattle.std.specs.Prelude.{Ok}
use Rattle.std.specs.List.{filter, list_any, range_with_len}
use Rattle.std.proofs.lemmas.Bool.{and_left, and_right, cases_eq, eq-eqb, lt-ltb, ne_eqb}
use Rattle.std.proofs.Math.Seq.{drop-cons}
use Rattle.std.proofs.lemmas.List.{append-nil, at_drop_all, length-set, get_or-set_same, get_or-set_other, length-replicate, get_or-replicate, map-append}
use Rattle.std.proofs.lemmas.List.Elements.{filter-append}
use Rattle.std.proofs.lemmas.List.Folds.{list_any-append}
use Rattle.std.proofs.lemmas.List.FromFn.{length-map-range_with_len, get_or-map-range_with_len, fill_by_all}
use Rattle.lk_base.proofs.Loops.{range_more}
use Rattle.lk_base.specs.declared.abi.TheConstants.{SHT_GROUP}
use Rattle.lk_tables.specs.Checks.{passes}
use Rattle.lk_tables.specs.FileHeader.{section_count}
use Rattle.lk_tables.specs.Groups.{is_group, members_of, has_member, is_taken_before}
use Rattle.lk_tables.specs.Heads.{all_section_checks}
use Rattle.lk_tables.specs.Objects.{group_of}
use Rattle.lk_tables.specs.Sections.{section_of}
use Rattle.lk_tables.proofs.BodyFacts.{section_inside}
use Rattle.elf_read.specs.Groups.{groups_before, taken_before, with_marked}
use Rattle.elf_read.proofs.RelocLists.{map_same, or_false}

-- one section more
taken_more : (b : List ℕ) (i k : ℕ) → is_taken_before b (i + 1) k ≡ (is_taken_before b i k || (has_member b k i || false))
unfolding is_taken_before
taken_more b i k = ap (list_any (has_member b k)) (range_more i) ∙ list_any-append (has_member b k) (range_with_len 0 i) (i ∷ [])

groups_more : (b : List ℕ) (i : ℕ) → groups_before b (i + 1) ≡ groups_before b i ++ map (group_of b) (filter (is_group b) (i ∷ []))
groups_more b i =
    ap (λ ks. map (group_of b) (filter (is_group b) ks)) (range_more i)
    ∙ ap (map (group_of b)) (filter-append (is_group b) (range_with_len 0 i) (i ∷ []))
    ∙ map-append (group_of b) (filter (is_group b) (range_with_len 0 i)) (filter (is_group b) (i ∷ []))

-- a section that is no group
pub null_group : (b : List ℕ) (i : ℕ) → nat_lt 0 i ≡ false → is_group b i ≡ false
unfolding is_group
null_group b i is = and_left (nat_lt 0 i) _ is

pub untyped_group : (b : List ℕ) (i : ℕ) → ((section_of b i).sh_type == SHT_GROUP) ≡ false → is_group b i ≡ false
unfolding is_group
untyped_group b i is = and_right (nat_lt 0 i) _ is

pub typed_group : (b : List ℕ) (i : ℕ) → 0 < i → (section_of b i).sh_type ≡ SHT_GROUP → is_group b i ≡ true
unfolding is_group
typed_group b i low is =
    ap (λ c. c && (section_of b i).sh_type == SHT_GROUP) (lt-ltb 0 i low) ∙ eq-eqb (section_of b i).sh_type SHT_GROUP is

-- the words of a group lie in the file
pub group_inside : (b : List ℕ) (i : ℕ) → passes (all_section_checks b) ≡ Ok tt → 0 < i → i < section_count b → (section_of b i).sh_type ≡ SHT_GROUP →
    (section_of b i).offset + (section_of b i).size ≤ length b
group_inside b i e low high is =
    section_inside b i e low high (λ z. absurd (omega (arith, is, z))) (λ z. absurd (omega (arith, is, z)))

-- past a section that is no group
no_member : (b : List ℕ) (k i : ℕ) → is_group b i ≡ false → has_member b k i ≡ false
unfolding has_member
no_member b k i is = and_left (is_group b i) (list_any (λ m. m == k) (members_of b i)) is

pub taken_kept : (b : List ℕ) (i : ℕ) → is_group b i ≡ false → taken_before b i ≡ taken_before b (i + 1)
taken_kept b i is =
    map_same _ _ (λ k. sym (taken_more b i k ∙ ap (λ c. is_taken_before b i k || (c || false)) (no_member b k i is) ∙ or_false (is_taken_before b i k)))
    (range_with_len 0 (section_count b))

pub groups_kept : (b : List ℕ) (i : ℕ) → is_group b i ≡ false → groups_before b i ≡ groups_before b (i + 1)
groups_kept b i is =
    sym (groups_more b i ∙ ap (λ c. groups_before b i ++ map (group_of b) (cond c (i ∷ []) [])) is ∙ append-nil (groups_before b i))

-- past a group
pub groups_put : (b : List ℕ) (i : ℕ) → is_group b i ≡ true → groups_before b i ++ (group_of b i ∷ []) ≡ groups_before b (i + 1)
groups_put b i is = sym (groups_more b i ∙ ap (λ c. groups_before b i ++ map (group_of b) (cond c (i ∷ []) [])) is)

pub length_marked : (marks : List Bool) (ks : List ℕ) → length (with_marked marks ks) ≡ length marks
unfolding with_marked
length_marked marks [] = refl
length_marked marks (k ∷ ks) = length_marked (set marks k true) ks ∙ length-set marks k true

marked_here : (x old here rest : Bool) → x ≡ true → here ≡ true → (x || rest) ≡ (old || (here || rest))
marked_here true true true rest e f = refl
marked_here true false true rest e f = refl
marked_here true old false rest e f = cc
marked_here false old here rest e f = cc

marked_other : (x old here rest : Bool) → x ≡ old → here ≡ false → (x || rest) ≡ (old || (here || rest))
marked_other x old false rest e f = ap (λ y. y || rest) e
marked_other x old true rest e f = cc

marked_last : (x : Bool) → x ≡ (x || false)
marked_last true = refl
marked_last false = refl

at_marked : (marks : List Bool) (ks : List ℕ) (k : ℕ) (d : Bool) → k < length marks →
    get_or (with_marked marks ks) k d ≡ (get_or marks k d || list_any (λ m. m == k) ks)
unfolding with_marked
at_marked marks [] k d lt = marked_last (get_or marks k d)
at_marked marks (m ∷ ks) k d lt =
    let later = at_marked (set marks m true) ks k d (omega (arith, lt, length-set marks m true)) in
    let rest = list_any (λ m. m == k) ks in
    later ∙ elim (cases_eq m k) [
      | inl same ↦ marked_here (get_or (set marks m true) k d) (get_or marks k d) (m == k) rest
          (ap (λ j. get_or (set marks j true) k d) same ∙ get_or-set_same marks k true d lt) (eq-eqb m k same)
      | inr apart ↦ marked_other (get_or (set marks m true) k d) (get_or marks k d) (m == k) rest
          (get_or-set_other marks m k true d (λ e. apart (sym e))) (ne_eqb m k apart)
    ]

member_step : (old group listed : Bool) → group ≡ true → (old || listed) ≡ (old || ((group && listed) || false))
member_step true true listed e = refl
member_step false true true e = refl
member_step false true false e = refl
member_step old false listed e = cc

taken_here : (b : List ℕ) (i k : ℕ) → is_group b i ≡ true →
    (is_taken_before b i k || list_any (λ m. m == k) (members_of b i)) ≡ is_taken_before b (i + 1) k
unfolding has_member
taken_here b i k is =
    member_step (is_taken_before b i k) (is_group b i) (list_any (λ m. m == k) (members_of b i)) is ∙ sym (taken_more b i k)

pub taken_put : (b : List ℕ) (i : ℕ) → is_group b i ≡ true → with_marked (taken_before b i) (members_of b i) ≡ taken_before b (i + 1)
taken_put b i is =
    let n = section_count b in
    let len : length (taken_before b i) ≡ n = length-map-range_with_len (is_taken_before b i) 0 n in
    fill_by_all (is_taken_before b (i + 1)) (with_marked (taken_before b i) (members_of b i)) n false
    (length_marked (taken_before b i) (members_of b i) ∙ len)
    (λ k lt.
    at_marked (taken_before b i) (members_of b i) k false (omega (arith, lt, len))
    ∙ ap (λ x. x || list_any (λ m. m == k) (members_of b i)) (get_or-map-range_with_len (is_taken_before b i) 0 n k k false lt (omega arith))
    ∙ taken_here b i k is)

-- the marks of members, one by one
pub mark_step : (marks : List Bool) (ks : List ℕ) (n : ℕ) (whole : List Bool) → n < length ks → with_marked marks (drop n ks) ≡ whole →
    with_marked (set marks (get_or ks n 0) true) (drop (n + 1) ks) ≡ whole
unfolding with_marked
mark_step marks ks n whole lt held =
    let e : n + 1 ≡ suc n = omega arith in
    ap (λ j. with_marked (set marks (get_or ks n 0) true) (drop j ks)) e ∙ sym (ap (with_marked marks) (drop-cons ks n 0 lt)) ∙ held

pub mark_end : (marks : List Bool) (ks : List ℕ) (n : ℕ) (whole : List Bool) → length ks ≤ n → with_marked marks (drop n ks) ≡ whole → marks ≡ whole
unfolding with_marked
mark_end marks ks n whole le held = sym (at_drop_all (with_marked marks) ks n le) ∙ held

-- before all sections
pub taken_start : (b : List ℕ) → replicate (section_count b) false ≡ taken_before b 0
unfolding is_taken_before
taken_start b =
    fill_by_all (is_taken_before b 0) (replicate (section_count b) false) (section_count b) false (length-replicate (section_count b) false)
    (λ k lt. get_or-replicate (section_count b) k false false lt)

-- one mark
pub taken_at : (b : List ℕ) (i k : ℕ) (marks : List Bool) (d : Bool) → marks ≡ taken_before b i → k < section_count b → get_or marks k d ≡ is_taken_before b i k
taken_at b i k marks d is lt =
    ap (λ xs. get_or xs k d) is ∙ get_or-map-range_with_len (is_taken_before b i) 0 (section_count b) k k d lt (omega arith)
