-- What holds of the lists of a body in which no check is broken.
use Rattle.std.proofs.Common.{◌≡◌, ◌≢◌, ℕ, ◌+◌, ◌%◌, ◌<◌, ◌≤◌, zero, suc, Bool, true, false, not, ◌&&◌, ◌||◌, ◌==◌, nat_lt, length, get_or, drop, List, [], ◌∷◌, ◌++◌, map, refl, sym, ap, ◌∙◌, arith, Option, Some, None, subst, inl, inr}
use Rattle.std.specs.Prelude.{Ok, is_some, if◌then◌else◌, ℤ, pos, negsuc, unsigned_abs, int_lt, bit_and, codes}
use Rattle.std.specs.Int.{is_power_of_two}
use Rattle.std.specs.Str.{bytes_eq}
use Rattle.std.specs.List.{All, AllByRecursion, AllPairs, filter, range_with_len}
use Rattle.std.specs.List.Sorted.{IsNonDecreasingBy}
use Rattle.std.specs.Ordering.{int_eq}
use Rattle.std.proofs.lemmas.List.{length-take}
use Rattle.std.proofs.lemmas.Bool.{cond_both, cond-true, cond-false, cases_Bool, cases_eq, and_parts, or_parts, eqb-true, ne_eqb, ltb-true, ltb-false}
use Rattle.std.proofs.lemmas.Bool.Decides.{nat_tests, Decides-int_eq}
use Rattle.std.proofs.lemmas.List.Elements.{All-from_recursion, recursion_from_All, All-nil}
use Rattle.std.proofs.lemmas.List.FromFn.{length-map-range_with_len, get_or-map-range_with_len}
use Rattle.lk_tables.specs.declared.heads.Place.TheVariants.{Undef, Common}
use Rattle.lk_tables.specs.declared.heads.Section.{Section}
use Rattle.lk_tables.specs.declared.heads.Symbol.{Symbol}
use Rattle.lk_tables.specs.declared.objects.Reloc.{Reloc}
use Rattle.lk_tables.specs.Bodies.{is_bad_alignment, is_bad_loaded, plain_checks, relocates, rela_of, is_bad_rela, rela_checks, body_checks, use_checks, all_body_checks, all_use_checks}
use Rattle.lk_base.specs.declared.kinds.TheConstants.{BAD_SECTION, LIMIT, BAD_ALIGNMENT, IFUNC}
use Rattle.lk_base.specs.RelocKinds.{is_among, is_lower}
use Rattle.lk_base.specs.declared.abi.TheConstants.{ALIGN_MAX, FILE_MAX, NOBITS_MAX, SHF_WRITE, SHF_EXECINSTR, SHF_LINK_ORDER, SHT_NULL, SHT_GROUP, SHT_NOBITS, SHT_RELA, STT_GNU_IFUNC}
use Rattle.lk_tables.specs.Checks.{Check, passes, NoneBroken, from_on, ◌says◌, flaw_at}
use Rattle.lk_tables.specs.Groups.{is_group, group_checks}
use Rattle.lk_tables.specs.FileHeader.{section_count, ends_past, place_of}
use Rattle.lk_tables.specs.Heads.{HeadView, HeadOf, head_of}
use Rattle.lk_tables.specs.Inside.{IsAlignment, IsLinked, IsPadding, IsRelocBefore, IsRelocWithin, IsCommonWithin, IsGroupWithin, IsGroupBefore, IsBodyInside}
use Rattle.lk_tables.specs.Names.{text_of}
use Rattle.lk_tables.specs.Objects.{ObjectView, BodyOf, object_of, object_checks, parts_of, group_of, relocs_in, relocs_for}
use Rattle.lk_base.specs.Order.{put_in, stable_order}
use Rattle.lk_tables.specs.Relocations.{end_of, pair_checks, place_width, width_of, rela_count, reloc, relocated_section, target_bytes, is_alignment, is_past_target, is_bad_addend, is_bad_padding, entry_checks, in_order, overlap_checks, entries_checks, relocs_of}
use Rattle.lk_tables.specs.Sections.{section_of, is_null, is_read, is_written, takes_relocs, is_loaded, loaded_types, contents_of}
use Rattle.lk_tables.specs.Symbols.{symtab_of, symbol_of, symbol_count, symbol_place, is_common, is_undef}
use Rattle.lk_tables.proofs.BodyFacts.{symbol_at, length_symbols, section_inside, sections_pass, sections_are, symbols_are}
use Rattle.lk_tables.proofs.HeadFacts.{section_at}
use Rattle.lk_tables.proofs.Passing.{each, both_pass, none_from_ok, ok_from_none, checked_value}
use Rattle.lk_tables.proofs.Ranges.{found}
use Rattle.lk_tables.proofs.RelocsApart.{relocs_apart}
use Rattle.lk_tables.proofs.SoundGroups.{IsSoundGroup, group_at, groups_within, groups_apart}
use Rattle.lk_tables.proofs.Widths.{end_inside}
use Rattle.lk_tables.proofs.SoundHead.{second_false, not_false, written_type, written_live, null_is, head_is, head_inside}
use Rattle.lk_base.proofs.StableOrder.{Rises, rises_order}

first_false : (x y : Bool) → (x && y) ≡ false → y ≡ true → x ≡ false
first_false true y e is = cc
first_false false y e is = refl

alignment_of : (a : ℕ) → is_bad_alignment a ≡ false → IsAlignment a
unfolding is_bad_alignment
alignment_of a e =
    let p = or_parts (not (a == 0) && not (is_power_of_two a)) (nat_lt (ALIGN_MAX) a) e in
    record {
      power = λ some. not_false _ (second_false (not (a == 0)) (not (is_power_of_two a)) p.0 (ap not (ne_eqb a 0 some)));
      most = ltb-false (ALIGN_MAX) a p.1;
    }

-- the checks of one section
body_at : (b : List ℕ) (k : ℕ) → passes (all_body_checks b) ≡ Ok tt → 0 < k → k < section_count b → (section_of b k).sh_type ≢ SHT_NULL →
    (passes (plain_checks b k (section_of b k)) ≡ Ok tt) × (passes (rela_checks b k) ≡ Ok tt) × (passes (group_checks b k) ≡ Ok tt)
unfolding body_checks
body_at b k e low high live =
    let s = section_of b k in
    let null : is_null k s.sh_type ≡ false = grind (arith, nat_tests) in
    let lines = plain_checks b k s ++ (rela_checks b k ++ group_checks b k) in
    let all = sym (ap passes (cond-false (is_null k s.sh_type) [] lines null)) ∙ each (body_checks b) 0 (section_count b) k e (omega arith) high in
    let p = both_pass (plain_checks b k s) (rela_checks b k ++ group_checks b k) (tt {0}) (tt {0}) all in
    let q = both_pass (rela_checks b k) (group_checks b k) (tt {0}) (tt {0}) p.1 in
    (p.0, q.0, q.1)

-- of two flags at most one
apart_of : (x y : ℕ) → (not (x == 0) && not (y == 0)) ≡ false → x ≢ 0 → y ≡ 0
apart_of x y e some = eqb-true y 0 (not_false _ (second_false (not (x == 0)) (not (y == 0)) e (ap not (ne_eqb x 0 some))))

follows_of : (x link count : ℕ) → (not (x == 0) && not (nat_lt link count)) ≡ false → x ≢ 0 → link < count
follows_of x link count e some =
    ltb-true link count (not_false _ (second_false (not (x == 0)) (not (nat_lt link count)) e (ap not (ne_eqb x 0 some))))

-- a written section that has passed; `inside` if it has bytes in the file
linked_from : (b : List ℕ) (k : ℕ) (s : Section) → passes (plain_checks b k s) ≡ Ok tt → is_written b s ≡ true →
    (s.sh_type ≢ SHT_NOBITS → s.size ≤ NOBITS_MAX) → IsLinked (section_count b) s
unfolding plain_checks is_bad_loaded
linked_from b k s e written inside =
    let lines : NoneBroken (plain_checks b k s) = none_from_ok (plain_checks b k s) (tt {0}) (tt {0}) e in
    let loaded = (written_type b s written).0 in
    let formed = second_false (is_loaded s) (is_bad_loaded b (section_count b) s) lines.1.1.0 loaded in
    let twice = not (bit_and s.flags SHF_WRITE == 0) && not (bit_and s.flags SHF_EXECINSTR == 0) in
    let astray = not (bit_and s.flags SHF_LINK_ORDER == 0) && not (nat_lt s.link (section_count b)) in
    let named = is_written b s && bytes_eq (text_of b s.name) (codes ".eh_frame_hdr") in
    let p = or_parts (not (is_among loaded_types s.sh_type)) (twice || (astray || named)) formed in
    let q = or_parts twice (astray || named) p.1 in
    let r = or_parts astray named q.1 in
    let aligned = second_false (is_loaded s) (is_bad_alignment s.align) lines.1.1.1.0 loaded in
    let sized = second_false (is_loaded s) (s.sh_type == SHT_NOBITS && nat_lt (NOBITS_MAX) s.size) lines.1.1.1.1.0 loaded in
    record {
      kind = not_false _ p.0;
      align = alignment_of s.align aligned;
      size = elim (cases_Bool (s.sh_type == SHT_NOBITS)) [
        | inl empty ↦ ltb-false (NOBITS_MAX) s.size (second_false (s.sh_type == SHT_NOBITS) (nat_lt (NOBITS_MAX) s.size) sized empty)
        | inr bits ↦ inside (λ z. let no : ⊥ = grind (arith, nat_tests) in no)
      ];
      apart = apart_of (bit_and s.flags SHF_WRITE) (bit_and s.flags SHF_EXECINSTR) q.0;
      follows = follows_of (bit_and s.flags SHF_LINK_ORDER) s.link (section_count b) r.0;
    }

pub linked_at : (b : List ℕ) (head : HeadView) (k : ℕ) → HeadOf b head → length b ≤ FILE_MAX → passes (all_body_checks b) ≡ Ok tt →
    0 < k → k < section_count b → is_written b (section_of b k) ≡ true → IsLinked (section_count b) (section_of b k)
linked_at b head k is short e low high written =
    let live = written_live b (section_of b k) written in
    linked_from b k (section_of b k) (body_at b k e low high live).0 written
    (λ bits. omega (arith, section_inside b k (sections_pass b head is) low high live bits))

-- the addend of an alignment that has passed
some_padding : (addend : ℤ) → int_lt addend (pos 0) ≡ false → addend ≡ pos (unsigned_abs addend)
some_padding (pos n) e = refl
some_padding (negsuc n) e = cc

padding_of : (addend : ℤ) → is_bad_padding addend ≡ false → IsPadding addend
unfolding is_bad_padding
padding_of addend e =
    let p = or_parts (int_lt addend (pos 0)) (not (unsigned_abs addend % 2 == 0)) e in
    record { some = some_padding addend p.0; even = eqb-true (unsigned_abs addend % 2) 0 (not_false _ p.1) }

-- one relocation, from the checks of its entry
within_of : (b : List ℕ) (n i j : ℕ) → n ≡ symbol_count b → passes (entry_checks b i j) ≡ Ok tt → is_read b (relocated_section b i) ≡ true →
    IsRelocWithin b n (relocated_section b i) (reloc b i j)
unfolding entry_checks is_past_target is_bad_addend
within_of b n i j counted e read =
    let r = reloc b i j in
    let s = relocated_section b i in
    let lines : NoneBroken (entry_checks b i j) = none_from_ok (entry_checks b i j) (tt {0}) (tt {0}) e in
    let c = target_bytes b i in
    let p = or_parts (s.sh_type == SHT_NOBITS) (ends_past s.size r.offset (place_width r)) lines.1.1.0 in
    let kind : is_some (width_of c r) ≡ true = not_false _ lines.1.1.1.0 in
    let q = or_parts (is_alignment r && is_bad_padding r.addend) (not (int_eq r.addend (pos 0)) && is_lower r.kind) lines.1.1.1.1.0 in
    record {
      read = read;
      bits = λ z. let no : ⊥ = grind (arith, nat_tests, p.0) in no;
      symbol = grind (arith, nat_tests, lines.0);
      kind = kind;
      fits = end_inside c r s.size (omega (arith, length-take s.size (drop s.offset b))) kind (ltb-false s.size (r.offset + place_width r) p.1);
      addend = λ lower.
          (Decides-int_eq r.addend (pos 0)).0 (not_false _ (first_false (not (int_eq r.addend (pos 0))) (is_lower r.kind) q.1 lower));
      padding = λ align. padding_of r.addend (second_false (is_alignment r) (is_bad_padding r.addend) q.0 align);
    }

-- what holds of each of a range holds of each in stable order, and of what is read from each
all_put : {X : Type 0} (P : X → Type 0) (key : X → ℕ) (x : X) (ys : List X) → P x → AllByRecursion P ys → AllByRecursion P (put_in key x ys)
all_put P key x [] here rest = (here, tt)
all_put P key x (y ∷ ys) here rest =
    cond_both (nat_lt (key y) (key x)) (y ∷ put_in key x ys) (x ∷ (y ∷ ys)) (AllByRecursion P) (λ below. (rest.0, all_put P key x ys here rest.1))
    (λ above. (here, rest))

all_order : {X : Type 0} (P : X → Type 0) (key : X → ℕ) (xs : List X) → AllByRecursion P xs → AllByRecursion P (stable_order key xs)
unfolding stable_order
all_order P key [] all = tt
all_order P key (x ∷ xs) all = all_put P key x (stable_order key xs) all.0 (all_order P key xs all.1)

all_map : {X Y : Type 0} (P : Y → Type 0) (f : X → Y) (xs : List X) → AllByRecursion (λ x. P (f x)) xs → AllByRecursion P (map f xs)
all_map P f [] all = tt
all_map P f (x ∷ xs) all = (all.0, all_map P f xs all.1)

all_range : {X : Type 0} (P : X → Type 0) (f : ℕ → X) (n : ℕ) → ((k : ℕ) → k < n → P (f k)) → AllByRecursion P (map f (range_with_len 0 n))
all_range P f n each_is =
    let xs = map f (range_with_len 0 n) in
    recursion_from_All P xs (λ k d lt.
    let high : k < n = omega (arith, length-map-range_with_len f 0 n) in
    subst P (sym (get_or-map-range_with_len f 0 n k k d high (omega arith))) (each_is k high))

-- a list that rises does not fall at any two numbers
rises_map : {X Y : Type 0} (key : Y → ℕ) (f : X → Y) (xs : List X) → Rises (λ x. key (f x)) xs → Rises key (map f xs)
rises_map key f [] up = tt
rises_map key f (x ∷ xs) up = (all_map (λ y. key (f x) ≤ key y) f xs up.0, rises_map key f xs up.1)

never_falls : {X : Type 0} (key : X → ℕ) (xs : List X) → Rises key xs → IsNonDecreasingBy key xs
never_falls key [] up i j d le lt = absurd (omega arith)
never_falls key (x ∷ xs) up zero zero d le lt = omega arith
never_falls key (x ∷ xs) up zero (suc j) d le lt = All-from_recursion (λ y. key x ≤ key y) xs up.0 j d (omega arith)
never_falls key (x ∷ xs) up (suc i) zero d le lt = absurd (omega arith)
never_falls key (x ∷ xs) up (suc i) (suc j) d le lt = never_falls key xs up.1 i j d (omega arith) (omega arith)

relocs_rise : (b : List ℕ) (i : ℕ) → IsNonDecreasingBy (λ (r : Reloc). r.offset) (relocs_of b i)
relocs_rise b i =
    never_falls (λ (r : Reloc). r.offset) (relocs_of b i)
    (rises_map (λ (r : Reloc). r.offset) (reloc b i) (in_order b i) (rises_order (λ j. (reloc b i j).offset) (range_with_len 0 (rela_count b i))))

all_numbers : (P : ℕ → Type 0) (n a : ℕ) → ((k : ℕ) → a ≤ k → k < a + n → P k) → AllByRecursion P (range_with_len a n)
all_numbers P zero a each_is = tt
all_numbers P (suc n) a each_is = (each_is a (omega arith) (omega arith), all_numbers P n (a + 1) (λ k low high. each_is k (omega arith) (omega arith)))

-- what holds of each entry holds of each in order of offset, and of what is read from each
pub all_in_order : (b : List ℕ) (P : ℕ → Type 0) (i : ℕ) → ((j : ℕ) → j < rela_count b i → P j) → AllByRecursion P (in_order b i)
all_in_order b P i each_is =
    all_order P (λ j. (reloc b i j).offset) (range_with_len 0 (rela_count b i)) (all_numbers P (rela_count b i) 0 (λ j low high. each_is j (omega arith)))

pub relocs_within : (b : List ℕ) (P : Reloc → Type 0) (i : ℕ) → ((j : ℕ) → j < rela_count b i → P (reloc b i j)) → All P (relocs_of b i)
relocs_within b P i each_is = All-from_recursion P (relocs_of b i) (all_map P (reloc b i) (in_order b i) (all_in_order b (λ j. P (reloc b i j)) i each_is))

-- the relocation section r of section k
record IsRelaOf (b : List ℕ) (k r : ℕ) : Type 0 where
  low : 0 < r
  typed : (section_of b r).sh_type ≡ SHT_RELA
  target : (section_of b r).info ≡ k
  taken : takes_relocs b k ≡ true

is_rela_of : (b : List ℕ) (k r : ℕ) → relocates b k r ≡ true → IsRelaOf b k r
unfolding relocates
is_rela_of b k r e =
    let s = section_of b r in
    let t = takes_relocs b k in
    let p = and_parts (nat_lt 0 r) (s.sh_type == SHT_RELA && (s.info == k && t)) e in
    let q = and_parts (s.sh_type == SHT_RELA) (s.info == k && t) p.1 in
    let u = and_parts (s.info == k) t q.1 in
    record { low = ltb-true 0 r p.0; typed = eqb-true s.sh_type SHT_RELA q.0; target = eqb-true s.info k u.0; taken = u.1 }

-- a section of which the relocations are read is one whose bytes are
taken_read : (b : List ℕ) (k : ℕ) → takes_relocs b k ≡ true → (0 < k) × (is_read b (section_of b k) ≡ true)
unfolding takes_relocs
taken_read b k e =
    let p = and_parts (nat_lt 0 k) (is_read b (section_of b k)) e in (ltb-true 0 k p.0, p.1)

abbrev header_line : List ℕ → ℕ → List Check
header_line b r = (is_bad_rela b r (section_of b r) says flaw_at BAD_SECTION r (place_of b r)) ∷ []

-- the entries of a relocation section that has passed: each, and all in order
entries_pass : (b : List ℕ) (k r : ℕ) → passes (rela_checks b r) ≡ Ok tt → relocates b k r ≡ true →
    ((j : ℕ) → j < rela_count b r → passes (entry_checks b r j) ≡ Ok tt) × (passes (overlap_checks b r [] (in_order b r)) ≡ Ok tt)
unfolding rela_checks entries_checks
entries_pass b k r e is =
    let lines = if relocates b (section_of b r).info r then entries_checks b r else [] in
    let here : relocates b (section_of b r).info r ≡ true = ap (λ i. relocates b i r) (is_rela_of b k r is).target ∙ is in
    let all = sym (ap passes (cond-true (relocates b (section_of b r).info r) (entries_checks b r) [] here))
    ∙ (both_pass (header_line b r) lines (tt {0}) (tt {0}) e).1 in
    let later = overlap_checks b r [] (in_order b r) ++ pair_checks b r in
    let both = both_pass (from_on (entry_checks b r) 0 (rela_count b r)) later (tt {0}) (tt {0}) all in
    let apart = both_pass (overlap_checks b r [] (in_order b r)) (pair_checks b r) (tt {0}) (tt {0}) both.1 in
    (λ j lt. each (entry_checks b r) 0 (rela_count b r) j both.0 (omega arith) lt, apart.0)

-- the relocations of section k
record AreWithin (b : List ℕ) (n k : ℕ) (list : List Reloc) : Type 0 where
  each : All (IsRelocWithin b n (section_of b k)) list
  rises : IsNonDecreasingBy (λ (r : Reloc). r.offset) list
  apart : AllPairs (IsRelocBefore (contents_of b (section_of b k))) list
  first : k ≡ 0 → list ≡ []

from_rela : (b : List ℕ) (n k : ℕ) (found_is : Option ℕ) → n ≡ symbol_count b → passes (all_body_checks b) ≡ Ok tt →
    ((r : ℕ) → found_is ≡ Some r → (relocates b k r ≡ true) × (r < section_count b)) → AreWithin b n k (relocs_in b found_is)
from_rela b n k None counted e is =
    record { each = All-nil (IsRelocWithin b n (section_of b k)); rises = λ i j d le lt. absurd (omega arith); apart = λ i j d lt high. absurd (omega arith); first = λ z. refl }
from_rela b n k (Some r) counted e is =
    let at = is r refl in
    let of = is_rela_of b k r at.0 in
    let read = taken_read b k of.taken in
    let checks = (body_at b r e of.low at.1 (λ z. absurd (omega (arith, of.typed)))).1 in
    let passed = entries_pass b k r checks at.0 in
    record {
      each = relocs_within b (IsRelocWithin b n (section_of b k)) r (λ j lt.
          subst (λ (i : ℕ). IsRelocWithin b n (section_of b i) (reloc b r j)) of.target
          (within_of b n r j counted (passed.0 j lt) (ap (λ i. is_read b (section_of b i)) of.target ∙ read.1)));
      rises = relocs_rise b r;
      apart = subst (λ (i : ℕ). AllPairs (IsRelocBefore (contents_of b (section_of b i))) (relocs_of b r)) of.target (relocs_apart b r passed.1);
      first = λ z. absurd (omega (arith, read.0));
    }

relocs_within_section : (b : List ℕ) (n k : ℕ) → n ≡ symbol_count b → passes (all_body_checks b) ≡ Ok tt → AreWithin b n k (relocs_for b k)
unfolding rela_of
relocs_within_section b n k counted e =
    from_rela b n k (rela_of b k) counted e (λ r is.
    let f = found (relocates b k) (section_count b) r is in (f.passes, omega (arith, f.high)))

-- a COMMON symbol
abbrev use_lines : List ℕ → ℕ → List Check
use_lines b k =
    ((symbol_of b k).sort == STT_GNU_IFUNC && not (is_undef (symbol_of b k).place) says flaw_at IFUNC (symtab_of b) (symbol_place b k))
    ∷ (is_common (symbol_of b k).place && is_bad_alignment (symbol_of b k).value says flaw_at BAD_ALIGNMENT (symtab_of b) (symbol_place b k))
    ∷ (is_common (symbol_of b k).place && nat_lt (NOBITS_MAX) (symbol_of b k).size says flaw_at LIMIT (symtab_of b) (symbol_place b k))
    ∷ []

common_lines : (b : List ℕ) (k : ℕ) → k ≢ 0 → passes (use_checks b k) ≡ Ok tt → (symbol_of b k).place ≡ Common → IsCommonWithin (symbol_of b k)
unfolding use_checks
common_lines b k low e is =
    let s = symbol_of b k in
    let all = sym (ap passes (cond-false (k == 0) [] (use_lines b k) (ne_eqb k 0 low))) ∙ e in
    let lines : NoneBroken (use_lines b k) = none_from_ok (use_lines b k) (tt {0}) (tt {0}) all in
    let common : is_common s.place ≡ true = ap is_common is in
    record {
      align = alignment_of s.value (second_false (is_common s.place) (is_bad_alignment s.value) lines.1.0 common);
      size = ltb-false (NOBITS_MAX) s.size (second_false (is_common s.place) (nat_lt (NOBITS_MAX) s.size) lines.1.1.0 common);
    }

common_at : (b : List ℕ) (k : ℕ) → passes (all_use_checks b) ≡ Ok tt → k < symbol_count b → (symbol_of b k).place ≡ Common → IsCommonWithin (symbol_of b k)
common_at b k e lt is =
    elim (cases_eq k 0) [
      | inl z ↦
          let undef : Undef ≡ Common = sym (null_is b).place ∙ (ap (λ i. (symbol_of b i).place) (sym z) ∙ is) in
          let no : ⊥ = cc in absurd no
      | inr low ↦ common_lines b k low (each (use_checks b) 0 (symbol_count b) k e (omega arith) lt) is
    ]

-- the parts of the checks of a sound body
bodies_pass : (b : List ℕ) (object : ObjectView) → BodyOf b object → (passes (all_body_checks b) ≡ Ok tt) × (passes (all_use_checks b) ≡ Ok tt)
unfolding object_checks
bodies_pass b object is = both_pass (all_body_checks b) (all_use_checks b) (tt {0}) (tt {0}) (ok_from_none (object_checks b) (tt {0}) is.sound)

relocs_are : (b : List ℕ) (object : ObjectView) → BodyOf b object → object.relocs ≡ map (relocs_for b) (range_with_len 0 (section_count b))
unfolding parts_of
relocs_are b object is = ap (λ (o : ObjectView). o.relocs) is.parts

relocs_at : (b : List ℕ) (object : ObjectView) (k : ℕ) (d : List Reloc) → BodyOf b object → k < section_count b → relocs_for b k ≡ get_or object.relocs k d
relocs_at b object k d is lt =
    sym (ap (λ xs. get_or xs k d) (relocs_are b object is) ∙ get_or-map-range_with_len (relocs_for b) 0 (section_count b) k k d lt (omega arith))

-- the groups
sound_group : (b : List ℕ) (i : ℕ) → passes (all_body_checks b) ≡ Ok tt → i < section_count b → is_group b i ≡ true → IsSoundGroup b i
unfolding is_group
sound_group b i e high group =
    let p = and_parts (nat_lt 0 i) ((section_of b i).sh_type == SHT_GROUP) group in
    let typed : (section_of b i).sh_type ≡ SHT_GROUP = eqb-true (section_of b i).sh_type SHT_GROUP p.1 in
    group_at b i group (body_at b i e (ltb-true 0 i p.0) high (λ z. absurd (omega (arith, typed)))).2

groups_are : (b : List ℕ) (object : ObjectView) → BodyOf b object
    → object.groups ≡ map (group_of b) (filter (is_group b) (range_with_len 0 (section_count b)))
unfolding parts_of
groups_are b object is = ap (λ (o : ObjectView). o.groups) is.parts

-- a sound body
pub body_inside : (b : List ℕ) (head : HeadView) (object : ObjectView) → HeadOf b head → BodyOf b object → length b ≤ FILE_MAX →
    IsBodyInside b head object
body_inside b head object is of short =
    let passed = bodies_pass b object of in
    let inside = head_inside b head is in
    let counted = inside.counted in
    let listed : length head.symbols ≡ symbol_count b = ap length (symbols_are b head is) ∙ length_symbols b in
    let lists : length object.relocs ≡ section_count b = ap length (relocs_are b object of) ∙ length-map-range_with_len (relocs_for b) 0 (section_count b) in
    let section : (k : ℕ) (d : Section) → k < section_count b → section_of b k ≡ get_or head.sections k d =
    λ k d lt. sym (section_at b head.sections k d (sections_are b head is) (omega (arith, counted))) in
    let list : (k : ℕ) (d : List Reloc) → k < section_count b → AreWithin b (length head.symbols) k (get_or object.relocs k d) =
    λ k d lt. subst (AreWithin b (length head.symbols) k) (relocs_at b object k d of lt)
    (relocs_within_section b (length head.symbols) k listed passed.0) in
    record {
      counted = omega (arith, lists, counted);
      linked = λ k d lt low written.
          let high : k < section_count b = omega (arith, counted) in
          let at = section k d high in
          let P : Section → Type 0 = λ s. IsLinked (length head.sections) s in
          subst P at
          (subst (λ n. IsLinked n (section_of b k)) (sym counted) (linked_at b head k is short passed.0 low high (ap (is_written b) at ∙ written)));
      first = λ d. (list 0 d (omega (arith, counted, inside.some))).first refl;
      relocs = λ k d lt s.
          let high : k < section_count b = omega (arith, lists) in
          subst (λ (s : Section). All (IsRelocWithin b (length head.symbols) s) (get_or object.relocs k d)) (section k s high) (list k d high).each;
      ordered = λ k d lt. (list k d (omega (arith, lists))).rises;
      relocs_apart = λ k d lt s.
          let high : k < section_count b = omega (arith, lists) in
          subst (λ (s : Section). AllPairs (IsRelocBefore (contents_of b s)) (get_or object.relocs k d)) (section k s high) (list k d high).apart;
      commons = λ k d lt common.
          let at = symbol_at b head.symbols k d (symbols_are b head is) lt in
          subst IsCommonWithin (sym at) (common_at b k passed.1 (omega (arith, listed)) (ap (λ (s : Symbol). s.place) (sym at) ∙ common));
      groups = subst (All (IsGroupWithin b (length head.sections))) (sym (groups_are b object of))
          (groups_within b head (section_count b) is inside (omega arith) (λ i lt group. sound_group b i passed.0 lt group));
      apart = subst (AllPairs IsGroupBefore) (sym (groups_are b object of))
          (groups_apart b (section_count b) (λ i lt group. sound_group b i passed.0 lt group));
    }

-- what is read of the bytes of a file says these
pub object_is : (b : List ℕ) (object : ObjectView) → object_of b ≡ Ok object → BodyOf b object
unfolding object_of
object_is b object e = record {
  parts = checked_value (object_checks b) (parts_of b) object e;
  sound = none_from_ok (object_checks b) (parts_of b) object e;
}

pub object_inside : (b : List ℕ) (head : HeadView) (object : ObjectView) → head_of b ≡ Ok head → object_of b ≡ Ok object → length b ≤ FILE_MAX →
    IsBodyInside b head object
object_inside b head object is of short = body_inside b head object (head_is b head is) (object_is b object of) short
