-- What the checks of a head say of its sections and of its symbol table.
use Rattle.std.proofs.Common.{◌≡◌, ◌≢◌, ℕ, ◌+◌, ◌*◌, ◌/◌, ◌%◌, ◌<◌, ◌≤◌, Bool, true, false, not, cond, ◌&&◌, ◌||◌, ◌==◌, nat_lt, length, get_or, List, [], ◌∷◌, zero, suc, refl, sym, ap, ◌∙◌, arith, Option, Some, None, inl, inr}
use Rattle.std.specs.Prelude.{Ok, unwrap_or, find, is_some, if◌then◌else◌}
use Rattle.std.specs.Option.{option_or}
use Rattle.std.specs.List.{range_with_len}
use Rattle.std.proofs.lemmas.Bool.{cond-false, and_parts, and_left, and_right, eq-eqb, ltb-true, eqb-true, false_from_ne_true, cases_eq, ne_eqb}
use Rattle.std.proofs.lemmas.Bool.Decides.{nat_tests}
use Rattle.std.proofs.lemmas.List.FromFn.{length-map-range_with_len, get_or-map-range_with_len}
use Rattle.lk_base.specs.declared.abi.TheConstants.{SHT_NULL, SHT_SYMTAB, SHT_STRTAB, SHT_NOBITS, SHT_SYMTAB_SHNDX, SYM_SIZE, WORD_SIZE}
use Rattle.lk_tables.specs.declared.heads.Section.{Section}
use Rattle.lk_base.specs.declared.defects.Flaw.{Flaw}
use Rattle.lk_tables.specs.Checks.{◌says◌, passes}
use Rattle.lk_tables.specs.FileHeader.{section_count, header, is_strtab}
use Rattle.lk_tables.specs.Heads.{all_section_checks, sections_of}
use Rattle.lk_tables.specs.Sections.{is_null, is_outside, is_bad_index_table, is_bad_symtab, is_symtab, first_of, has_type, index_table_before, symtab_before, section_checks, section_of, section_name_len}
use Rattle.lk_tables.specs.Symbols.{index_table_of, symtab_of, symbol_count, IsReadable}
use Rattle.lk_tables.proofs.Passing.{each}
use Rattle.lk_tables.proofs.Ranges.{find_more, found, IsFound}

pub length_sections : (b : List ℕ) → length (sections_of b) ≡ section_count b
length_sections b = length-map-range_with_len (section_of b) 0 (section_count b)

none_there : (i : ℕ) → unwrap_or (cond (nat_lt 0 i && true) (Some i) None) 0 ≡ i
none_there zero = refl
none_there (suc i) =
    let above : (nat_lt 0 (suc i) && true) ≡ true = grind (arith, nat_tests) in
    ap (λ b. unwrap_or (cond b (Some (suc i)) None) 0) above

none_later : (b : Bool) (i : ℕ) → unwrap_or (cond (nat_lt 0 i && b) (Some i) None) 0 ≡ cond b i 0
none_later true i = none_there i
none_later false i = rw (and_right (nat_lt 0 i) false refl) refl

-- the first section of a type, one section on
later_found : (p t : ℕ → Bool) (i : ℕ) (r : Option ℕ) → ((k : ℕ) → p k ≡ (nat_lt 0 k && t k)) → ((k : ℕ) → r ≡ Some k → p k ≡ true) →
    unwrap_or (option_or r (cond (p i) (Some i) None)) 0 ≡ cond (unwrap_or r 0 == 0 && t i) i (unwrap_or r 0)
later_found p t i None is some = ap (λ b. unwrap_or (cond b (Some i) None) 0) (is i) ∙ none_later (t i) i
later_found p t i (Some k) is some =
    let above : nat_lt 0 k ≡ true = (and_parts (nat_lt 0 k) (t k) (sym (is k) ∙ some k refl)).0 in
    let other : (k == 0) ≡ false = grind (arith, nat_tests) in
    sym (cond-false (k == 0 && t i) i k (and_left (k == 0) (t i) other))

pub later_is : (b : List ℕ) (t i : ℕ) → first_of b t (i + 1) ≡ (if first_of b t i == 0 && (header b i).sh_type == t then i else first_of b t i)
unfolding first_of
later_is b t i =
    ap (λ r. unwrap_or r 0) (find_more (has_type b t) i)
    ∙ later_found (has_type b t) (λ k. (header b k).sh_type == t) i (find (has_type b t) (range_with_len 0 i)) (λ k. refl)
    (λ k e. IsFound.passes (found (has_type b t) i k e))

-- a section that has passed
pub record IsSound (b : List ℕ) (k : ℕ) : Type 0 where
  pub inside : is_outside b (header b k) ≡ false
  pub named : is_some (section_name_len b (header b k).name) ≡ true
  pub table : is_bad_symtab b (symtab_before b k) (header b k) ≡ false
  pub indexes : is_bad_index_table b (index_table_before b k) (header b k) ≡ false

four_lines : (n a b c d : Bool) (f g h i : Flaw) → n ≡ false →
    passes (if n then [] else (a says f) ∷ (not b says g) ∷ (c says h) ∷ (d says i) ∷ []) ≡ Ok tt → (a ≡ false) × (b ≡ true) × (c ≡ false) × (d ≡ false)
four_lines true a b c d f g h i live e = cc
four_lines false true b c d f g h i live e = cc
four_lines false false false c d f g h i live e = cc
four_lines false false true true d f g h i live e = cc
four_lines false false true false true f g h i live e = cc
four_lines false false true false false f g h i live e = (refl, refl, refl, refl)

of_lines : (b : List ℕ) (k : ℕ) → is_null k (header b k).sh_type ≡ false → passes (section_checks b k) ≡ Ok tt → IsSound b k
unfolding section_checks
of_lines b k live e =
    let p = four_lines (is_null k (header b k).sh_type) (is_outside b (header b k)) (is_some (section_name_len b (header b k).name))
    (is_bad_symtab b (symtab_before b k) (header b k)) (is_bad_index_table b (index_table_before b k) (header b k)) _ _ _ _ live e in
    record { inside = p.0; named = p.1; table = p.2; indexes = p.3 }

pub sound_at : (b : List ℕ) (k : ℕ) → passes (all_section_checks b) ≡ Ok tt → 0 < k → k < section_count b → (header b k).sh_type ≢ SHT_NULL → IsSound b k
sound_at b k e low high live =
    of_lines b k (grind (arith, nat_tests)) (each (section_checks b) 0 (section_count b) k e (omega arith) high)

-- the bytes of a section that has some lie in the file
pub inside_at : (b : List ℕ) (k : ℕ) → is_outside b (header b k) ≡ false → (header b k).sh_type ≢ SHT_NOBITS → (header b k).offset + (header b k).size ≤ length b
unfolding is_outside
inside_at b k e some = grind (arith, nat_tests)

-- the first section of a type
pub record HasFirst (b : List ℕ) (t : ℕ) : Type 0 where
  pub low : 0 < first_of b t (section_count b)
  pub high : first_of b t (section_count b) < section_count b
  pub is : (header b (first_of b t (section_count b))).sh_type ≡ t

from_found : (b : List ℕ) (t : ℕ) (r : Option ℕ) → ((k : ℕ) → r ≡ Some k → IsFound (has_type b t) 0 (section_count b) k) → unwrap_or r 0 ≢ 0 →
    (0 < unwrap_or r 0) × (unwrap_or r 0 < section_count b) × ((header b (unwrap_or r 0)).sh_type ≡ t)
from_found b t None all some = absurd (some refl)
from_found b t (Some k) all some =
    let f = all k refl in
    let parts = and_parts (nat_lt 0 k) ((header b k).sh_type == t) f.passes in
    (omega arith, omega (arith, f.high), eqb-true _ _ parts.1)

pub has_first : (b : List ℕ) (t : ℕ) → first_of b t (section_count b) ≢ 0 → HasFirst b t
unfolding first_of
has_first b t some =
    let f = from_found b t (find (has_type b t) (range_with_len 0 (section_count b))) (found (has_type b t) (section_count b)) some in
    record { low = f.0; high = f.1; is = f.2 }

-- a section that is the first of its type stays that
later_at : (b : List ℕ) (t k : ℕ) → first_of b t k ≡ 0 → (header b k).sh_type ≡ t → first_of b t (k + 1) ≡ k
later_at b t k none is = later_is b t k ∙ rw (none, eq-eqb _ _ is) refl

stays : (b : List ℕ) (t k n : ℕ) → 0 < k → first_of b t (k + 1) ≡ k → k < n → first_of b t n ≡ k
stays b t k zero low is lt = absurd (omega (arith, lt))
stays b t k (suc n) low is lt =
    elim (cases_eq k n) [
      | inl here ↦ ap (first_of b t) (omega (arith, here)) ∙ is
      | inr other ↦
          let same = stays b t k n low is (omega (arith, lt, other)) in
          let some : (first_of b t n == 0) ≡ false = ne_eqb _ _ (λ z. absurd (omega (arith, z, same, low))) in
          ap (first_of b t) (omega arith) ∙ (later_is b t n ∙ (cond-false _ _ _ (and_left _ ((header b n).sh_type == t) some) ∙ same))
    ]

first_is : (b : List ℕ) (t k : ℕ) → 0 < k → k < section_count b → first_of b t k ≡ 0 → (header b k).sh_type ≡ t → first_of b t (section_count b) ≡ k
first_is b t k low high none is = stays b t k (section_count b) low (later_at b t k none is) high

chain : (a c d f g h : Bool) → (a && (c || (d || (f || (not g || h))))) ≡ false → a ≡ true → g ≡ true
chain a c d f true h e is = refl
chain a c d f false h e is = grind arith

-- the symbol string table is a string table
links : (b : List ℕ) (earlier k : ℕ) → is_bad_symtab b earlier (header b k) ≡ false → (header b k).sh_type ≡ SHT_SYMTAB → is_strtab b (header b k).link ≡ true
unfolding is_bad_symtab
links b earlier k e is =
    chain ((header b k).sh_type == SHT_SYMTAB) (not (earlier == 0)) (not ((header b k).entsize == SYM_SIZE)) (not ((header b k).size % SYM_SIZE == 0))
    (is_strtab b (header b k).link) (nat_lt ((header b k).size / SYM_SIZE) (header b k).info) e (eq-eqb _ _ is)

count_is : (b : List ℕ) → symtab_of b ≢ 0 → symbol_count b ≡ (header b (symtab_of b)).size / SYM_SIZE
unfolding symbol_count
count_is b some = cond-false (symtab_of b == 0) 0 ((header b (symtab_of b)).size / SYM_SIZE) (false_from_ne_true _ (λ e. some (eqb-true _ _ e)))

alone : (a c d f g h : Bool) → (a && (not c || (d || (f || (not g || h))))) ≡ false → a ≡ true → c ≡ true
alone a true d f g h e is = refl
alone a false d f g h e is = grind arith

first_symtab : (b : List ℕ) (earlier k : ℕ) → is_bad_symtab b earlier (header b k) ≡ false → (header b k).sh_type ≡ SHT_SYMTAB → earlier ≡ 0
unfolding is_bad_symtab
first_symtab b earlier k e is =
    eqb-true _ _ (alone ((header b k).sh_type == SHT_SYMTAB) (earlier == 0) (not ((header b k).entsize == SYM_SIZE)) (not ((header b k).size % SYM_SIZE == 0))
    (is_strtab b (header b k).link) (nat_lt ((header b k).size / SYM_SIZE) (header b k).info) e (eq-eqb _ _ is))

-- there is one symbol table, if all sections have passed
pub only_symtab : (b : List ℕ) (k : ℕ) → passes (all_section_checks b) ≡ Ok tt → is_symtab b k ≡ true → symtab_of b ≡ k
only_symtab b k e is =
    let first = and_parts _ _ is in
    let second = and_parts _ _ first.1 in
    let low : 0 < k = ltb-true _ _ first.0 in
    let high : k < section_count b = ltb-true _ _ second.0 in
    let typed : (header b k).sh_type ≡ SHT_SYMTAB = eqb-true _ _ second.1 in
    let s = sound_at b k e low high (λ z. absurd (omega (arith, typed, z))) in
    first_is b SHT_SYMTAB k low high (first_symtab b _ k s.table typed) typed

sized : (a c d f g : Bool) → (a && (c || (d || (not f || not g)))) ≡ false → a ≡ true → (f ≡ true) × (g ≡ true)
sized true true d f g e is = cc
sized true false true f g e is = cc
sized true false false false g e is = cc
sized true false false true false e is = cc
sized true false false true true e is = (refl, refl)
sized false c d f g e is = cc

index_table_sized : (b : List ℕ) (earlier k : ℕ) → is_bad_index_table b earlier (header b k) ≡ false → (header b k).sh_type ≡ SHT_SYMTAB_SHNDX →
    (is_symtab b (header b k).link ≡ true) × ((header b k).size ≡ WORD_SIZE * ((header b (header b k).link).size / SYM_SIZE))
unfolding is_bad_index_table
index_table_sized b earlier k e is =
    let p = sized ((header b k).sh_type == SHT_SYMTAB_SHNDX) (not (earlier == 0)) (not ((header b k).entsize == WORD_SIZE)) (is_symtab b (header b k).link)
    ((header b k).size == WORD_SIZE * ((header b (header b k).link).size / SYM_SIZE)) e (eq-eqb _ _ is) in
    (p.0, eqb-true _ _ p.1)

-- the table of section indexes has a word for each symbol, and lies in the file
indexes_inside : (b : List ℕ) → passes (all_section_checks b) ≡ Ok tt → symtab_of b ≢ 0 → index_table_of b ≢ 0 →
    (header b (index_table_of b)).offset + WORD_SIZE * symbol_count b ≤ length b
indexes_inside b e some any =
    let k = index_table_of b in
    let t = has_first b SHT_SYMTAB_SHNDX any in
    let s = sound_at b k e t.low t.high (λ z. absurd (omega (arith, t.is, z))) in
    let is = index_table_sized b _ k s.indexes t.is in
    let inside = inside_at b k s.inside (λ z. absurd (omega (arith, t.is, z))) in
    let same : (header b (header b k).link).size ≡ (header b (symtab_of b)).size = ap (λ j. (header b j).size) (sym (only_symtab b (header b k).link e is.0)) in
    let counted : symbol_count b ≡ (header b (header b k).link).size / SYM_SIZE = count_is b some ∙ ap (λ n. n / SYM_SIZE) (sym same) in
    let words : WORD_SIZE * symbol_count b ≡ (header b k).size = ap (λ n. WORD_SIZE * n) counted ∙ sym is.1 in
    omega (arith, inside, words)

-- the symbol table if all sections have passed
pub readable : (b : List ℕ) → passes (all_section_checks b) ≡ Ok tt → symtab_of b ≢ 0 → IsReadable b
readable b e some =
    let t = has_first b SHT_SYMTAB some in
    let live : (header b (symtab_of b)).sh_type ≢ SHT_NULL = λ z. absurd (omega (arith, t.is)) in
    let s = sound_at b (symtab_of b) e t.low t.high live in
    let st = links b _ (symtab_of b) s.table t.is in
    let first = and_parts _ _ st in
    let second = and_parts _ _ first.1 in
    let link_low : 0 < (header b (symtab_of b)).link = ltb-true _ _ first.0 in
    let link_high : (header b (symtab_of b)).link < section_count b = ltb-true _ _ second.0 in
    let kind : (header b (header b (symtab_of b)).link).sh_type ≡ SHT_STRTAB = eqb-true _ _ second.1 in
    let ls = sound_at b (header b (symtab_of b)).link e link_low link_high (λ z. absurd (omega (arith, kind))) in
    record {
      low = t.low;
      high = t.high;
      link_high = link_high;
      within = inside_at b (symtab_of b) s.inside (λ z. absurd (omega (arith, t.is)));
      count = count_is b some;
      strings_within = inside_at b (header b (symtab_of b)).link ls.inside (λ z. absurd (omega (arith, kind)));
      indexes_within = indexes_inside b e some;
    }

-- an element of the list of sections
pub section_at : (b : List ℕ) (sections : List Section) (k : ℕ) (d : Section) → sections ≡ sections_of b → k < length sections → get_or sections k d ≡ section_of b k
section_at b sections k d is lt =
    let high : k < section_count b = omega (arith, ap length is, length_sections b) in
    ap (λ xs. get_or xs k d) is ∙ get_or-map-range_with_len (section_of b) 0 (section_count b) k k d high (omega arith)
