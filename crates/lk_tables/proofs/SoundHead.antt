-- What holds of the lists of a head in which no check is broken.
use Rattle.std.proofs.Common.{◌≡◌, ◌≢◌, ℕ, ◌+◌, ◌*◌, ◌/◌, ◌-◌, ◌<◌, ◌≤◌, Bool, true, false, not, ◌&&◌, ◌||◌, ◌==◌, nat_lt, length, get_or, take, drop, List, [], ◌∷◌, ◌++◌, refl, sym, ap, ◌∙◌, arith, Option, Some, None, subst, inl, inr}
use Rattle.std.specs.Prelude.{Ok, unwrap_or, is_some, if◌then◌else◌, max, min, ◌%◌, codes}
use Rattle.std.specs.Str.{bytes_eq}
use Rattle.std.proofs.lemmas.Bool.{cond_both, cases_eq, and_parts, or_parts, eqb-true, eq-eqb, ne_eqb, ltb-false, ltb-true}
use Rattle.std.proofs.lemmas.Bool.Decides.{nat_tests}
use Rattle.std.proofs.lemmas.List.Quantifiers.{position-Some}
use Rattle.std.proofs.lemmas.Grind.{common_steps}
use Rattle.lk_base.specs.declared.defects.Flaw.{Flaw}
use Rattle.lk_base.specs.RelocKinds.{is_among}
use Rattle.lk_base.specs.declared.abi.TheConstants.{SHDR_SIZE, SECTIONS_MAX, SHN_UNDEF, SHN_LORESERVE, SHN_ABS, SHN_COMMON, SHN_XINDEX, SHT_NULL, SHT_PROGBITS, SHT_SYMTAB, STB_LOCAL, SYM_SIZE}
use Rattle.lk_tables.specs.declared.heads.Place.{Place}
use Rattle.lk_tables.specs.declared.heads.Place.TheVariants.{Undef, Absolute, Common, Within}
use Rattle.lk_tables.specs.declared.heads.Section.{Section}
use Rattle.lk_tables.specs.declared.heads.Symbol.{Symbol}
use Rattle.lk_tables.specs.Checks.{◌says◌, passes, NoneBroken}
use Rattle.lk_tables.specs.FileHeader.{section_count, e_shoff, is_strtab, header, header_checks, identity_checks, form_checks, table_checks}
use Rattle.lk_tables.specs.Heads.{HeadView, HeadOf, head_of, fields_of, head_checks, all_section_checks, all_symbol_checks}
use Rattle.lk_tables.specs.Inside.{IsNameWithin, IsPlaceWithin, IsNullSymbol, HasLocalsFirst, IsHeadInside}
use Rattle.lk_tables.specs.Names.{is_zero, text_of, name_len}
use Rattle.lk_tables.specs.Sections.{section_of, is_null, is_frame, is_read, is_written, written_at, is_loaded, loaded_types, is_bad_symtab, names_from, names_size}
use Rattle.lk_tables.specs.Symbols.{symtab_of, symbol_of, symbol_from, null_symbol, symbol_count, symbol_checks, entry, bindings, sorts, place_from, place_at, index_word, within, strings_from, strings_size, symbol_name_len, is_common, is_strange, is_bad_local, is_misplaced, is_bad_common, is_past_end, is_bad_symbol}
use Rattle.lk_tables.proofs.BodyFacts.{symbol_at, length_symbols, section_inside, header_passes, sections_pass, sections_are, symbols_are, symtab_is, no_symbols}
use Rattle.lk_tables.proofs.HeadFacts.{sound_at, has_first, readable, section_at, length_sections}
use Rattle.lk_tables.proofs.Passing.{each, both_pass, none_from_ok, ok_from_none, checked_value}

pub second_false : (x y : Bool) → (x && y) ≡ false → x ≡ true → y ≡ false
second_false true y e is = e
second_false false y e is = cc

-- the section table
record IsTable (b : List ℕ) : Type 0 where
  some : 0 < section_count b
  few : section_count b ≤ SECTIONS_MAX
  within : e_shoff b + SHDR_SIZE * section_count b ≤ length b

table_of : (b : List ℕ) → passes (header_checks b) ≡ Ok tt → IsTable b
unfolding header_checks table_checks
table_of b e =
    let rest = (both_pass (identity_checks b) (form_checks b ++ table_checks b) (tt {0}) (tt {0}) e).1 in
    let last = (both_pass (form_checks b) (table_checks b) (tt {0}) (tt {0}) rest).1 in
    let lines : NoneBroken (table_checks b) = none_from_ok (table_checks b) (tt {0}) (tt {0}) last in
    record {
      some = grind (arith, nat_tests, lines.1.0);
      few = ltb-false _ _ lines.1.1.0;
      within = ltb-false _ _ lines.1.1.1.0;
    }

-- a name that ends in its table ends in the file
pub name_ends : (b : List ℕ) (from size at len : ℕ) → name_len b from size at ≡ Some len → from + at + len ≤ length b
unfolding name_len
name_ends b from size at len e =
    let p = (position-Some is_zero (take (size - at) (drop (from + at) b)) len 0 e).0 in
    grind (arith, common_steps, p)

some_ends : (r : Option ℕ) (at n : ℕ) → is_some r ≡ true → ((len : ℕ) → r ≡ Some len → at + len ≤ n) → at + unwrap_or r 0 ≤ n
some_ends None at n is ends = cc
some_ends (Some len) at n is ends = ends len refl

name_within : (b : List ℕ) (from size at : ℕ) → is_some (name_len b from size at) ≡ true → from + at + unwrap_or (name_len b from size at) 0 ≤ length b
name_within b from size at is =
    some_ends (name_len b from size at) (from + at) (length b) is (λ len e. name_ends b from size at len e)

-- the name of a section
section_named : (b : List ℕ) (k : ℕ) → passes (all_section_checks b) ≡ Ok tt → k < section_count b → IsNameWithin (length b) (section_of b k).name
unfolding section_of
section_named b k e high =
    cond_both (is_null k (header b k).sh_type) _ _ (λ (s : Section). IsNameWithin (length b) s.name)
    (λ null. omega arith)
    (λ live.
    let p = or_parts (k == 0) ((header b k).sh_type == SHT_NULL) live in
    let low : 0 < k = grind (arith, nat_tests, p.0) in
    let typed : (header b k).sh_type ≢ SHT_NULL = λ z. grind (arith, nat_tests, p.1) in
    name_within b (names_from b) (names_size b) (header b k).name (sound_at b k e low high typed).named)

-- where a symbol stands
section_cases : (n k : ℕ) (p : Place) (a : Bool) → (nat_lt 0 k && nat_lt k n) ≡ a → (if a then Some (Within k) else None) ≡ Some p → IsPlaceWithin n p
section_cases n k p true lt e =
    let P : Place → Type 0 = λ q. IsPlaceWithin n q in
    let same : Within k ≡ p = cc in
    let both = and_parts (nat_lt 0 k) (nat_lt k n) lt in
    subst P same (ltb-true _ _ both.0, ltb-true _ _ both.1)
section_cases n k p false lt e = let no : ⊥ = cc in absurd no

section_within : (n k : ℕ) (p : Place) → within n k ≡ Some p → IsPlaceWithin n p
section_within n k p e = section_cases n k p (nat_lt 0 k && nat_lt k n) refl e

place_cases : (n x w : ℕ) (p : Place) (a b c d f : Bool) →
    (if a then Some Undef else (if b then Some Absolute else (if c then Some Common else (if d then within n w else (if f then within n x else None))))) ≡ Some p → IsPlaceWithin n p
place_cases n x w p true b c d f e = let P : Place → Type 0 = λ q. IsPlaceWithin n q in let same : Undef ≡ p = cc in subst P same tt
place_cases n x w p false true c d f e = let P : Place → Type 0 = λ q. IsPlaceWithin n q in let same : Absolute ≡ p = cc in subst P same tt
place_cases n x w p false false true d f e = let P : Place → Type 0 = λ q. IsPlaceWithin n q in let same : Common ≡ p = cc in subst P same tt
place_cases n x w p false false false true f e = section_within n w p e
place_cases n x w p false false false false true e = section_within n x p e
place_cases n x w p false false false false false e = let no : ⊥ = cc in absurd no

place_within : (n x w : ℕ) (p : Place) → place_from n x w ≡ Some p → IsPlaceWithin n p
unfolding place_from
place_within n x w p e = place_cases n x w p (x == SHN_UNDEF) (x == SHN_ABS) (x == SHN_COMMON) (x == SHN_XINDEX) (nat_lt x SHN_LORESERVE) e

some_within : (n : ℕ) (r : Option Place) → is_some r ≡ true → ((p : Place) → r ≡ Some p → IsPlaceWithin n p) → IsPlaceWithin n (unwrap_or r Undef)
some_within n None is within = cc
some_within n (Some p) is within = within p refl

stands_within : (b : List ℕ) (k : ℕ) → is_some (place_at b k) ≡ true → IsPlaceWithin (section_count b) (unwrap_or (place_at b k) Undef)
unfolding place_at
stands_within b k is = some_within (section_count b) (place_at b k) is (λ p e. place_within (section_count b) (entry b k).shndx (index_word b k) p e)

value_within : (b : List ℕ) (p : Place) (value j : ℕ) → is_past_end b p value ≡ false → p ≡ Within j → 0 < j → is_written b (section_of b j) ≡ true →
    value ≤ (section_of b j).size
unfolding is_past_end written_at
value_within b p value j past at low written =
    let here : is_past_end b (Within j) value ≡ false = ap (λ q. is_past_end b q value) (sym at) ∙ past in
    let some : nat_lt 0 j ≡ true = grind (arith, nat_tests) in
    let both : (nat_lt 0 j && is_written b (section_of b j)) ≡ true = rw (some, written) refl in
    ltb-false (section_of b j).size value
    (second_false (nat_lt 0 j && is_written b (section_of b j)) (nat_lt (section_of b j).size value) here both)

-- one symbol
pub record IsSymbolInside (b : List ℕ) (k : ℕ) (s : Symbol) : Type 0 where
  pub name : IsNameWithin (length b) s.name
  pub place : IsPlaceWithin (section_count b) s.place
  pub value : (j : ℕ) → s.place ≡ Within j → is_written b (section_of b j) ≡ true → s.value ≤ (section_of b j).size
  pub among : is_among bindings s.binding ≡ true
  pub named : s.binding ≢ STB_LOCAL → 0 < s.name.len
  pub below : k < (header b (symtab_of b)).info → s.binding ≡ STB_LOCAL
  pub above : 0 < k → (header b (symtab_of b)).info ≤ k → s.binding ≢ STB_LOCAL
  pub common : s.place ≡ Common → s.binding ≢ STB_LOCAL

null_inside : (b : List ℕ) (k value size : ℕ) → k ≡ 0 → IsSymbolInside b k (null_symbol value size)
null_inside b k value size z = record {
  name = omega arith;
  place = tt;
  value = λ j e w. let no : ⊥ = cc in absurd no;
  among = refl;
  named = λ other. absurd (other refl);
  below = λ lt. refl;
  above = λ low le. absurd (omega arith);
  common = λ e. let no : ⊥ = cc in absurd no;
}

-- a symbol that can be
record IsSymbolSound (b : List ℕ) (i : ℕ) (s : Symbol) : Type 0 where
  among : is_among bindings s.binding ≡ true
  below : i < (header b (symtab_of b)).info → s.binding ≡ STB_LOCAL
  above : (header b (symtab_of b)).info ≤ i → s.binding ≢ STB_LOCAL
  common : is_common s.place ≡ true → s.binding ≢ STB_LOCAL
  named : s.binding ≢ STB_LOCAL → 0 < s.name.len
  past : is_past_end b s.place s.value ≡ false

pub not_false : (x : Bool) → not x ≡ false → x ≡ true
not_false true e = refl
not_false false e = cc

below_of : (locals i binding : ℕ) → (nat_lt i locals && not (binding == STB_LOCAL)) ≡ false → i < locals → binding ≡ STB_LOCAL
below_of locals i binding e lt =
    eqb-true binding STB_LOCAL (not_false _ (second_false (nat_lt i locals) (not (binding == STB_LOCAL)) e (grind (arith, nat_tests))))

above_of : (locals i binding : ℕ) → (not (nat_lt i locals) && binding == STB_LOCAL) ≡ false → locals ≤ i → binding ≢ STB_LOCAL
above_of locals i binding e le z =
    let at : nat_lt i locals ≡ false = grind (arith, nat_tests) in
    let other : (binding == STB_LOCAL) ≡ false = second_false (not (nat_lt i locals)) (binding == STB_LOCAL) e (ap not at) in
    grind (arith, nat_tests)

common_of : (binding : ℕ) (c : Bool) → (binding == STB_LOCAL && c) ≡ false → c ≡ true → binding ≢ STB_LOCAL
common_of binding c e is z =
    let no : c ≡ false = second_false (binding == STB_LOCAL) c e (eq-eqb binding STB_LOCAL z) in
    let wrong : ⊥ = cc in wrong

named_of : (binding len : ℕ) → (not (binding == STB_LOCAL) && len == 0) ≡ false → binding ≢ STB_LOCAL → 0 < len
named_of binding len e some =
    let other : (len == 0) ≡ false = second_false (not (binding == STB_LOCAL)) (len == 0) e (ap not (ne_eqb binding STB_LOCAL some)) in
    grind (arith, nat_tests)

symbol_sound : (b : List ℕ) (i : ℕ) (s : Symbol) → is_bad_symbol b i s ≡ false → IsSymbolSound b i s
unfolding is_bad_symbol is_strange is_bad_local is_misplaced
symbol_sound b i s is =
    let locals = (header b (symtab_of b)).info in
    let local = s.binding == STB_LOCAL in
    let past = is_past_end b s.place s.value in
    let p = or_parts (is_strange s) (is_bad_local locals i s || (is_bad_common s || past)) is in
    let q = or_parts (is_bad_local locals i s) (is_bad_common s || past) p.1 in
    let t = or_parts (not (is_among bindings s.binding)) (not (is_among sorts s.sort)) p.0 in
    let u = or_parts (is_misplaced locals i s.binding) ((local && is_common s.place) || (not local && s.name.len == 0)) q.0 in
    let v = or_parts (local && is_common s.place) (not local && s.name.len == 0) u.1 in
    let w = or_parts (nat_lt i locals && not local) (not (nat_lt i locals) && local) u.0 in
    record {
      among = not_false _ t.0;
      below = below_of locals i s.binding w.0;
      above = above_of locals i s.binding w.1;
      common = common_of s.binding (is_common s.place) v.0;
      named = named_of s.binding s.name.len v.1;
      past = (or_parts (is_bad_common s) past q.1).1;
    }

three_lines : (n a c d : Bool) (f g h : Flaw) → n ≡ false →
    passes (if n then [] else (not a says f) ∷ (not c says g) ∷ (d says h) ∷ []) ≡ Ok tt → (a ≡ true) × (c ≡ true) × (d ≡ false)
three_lines true a c d f g h live e = cc
three_lines false false c d f g h live e = cc
three_lines false true false d f g h live e = cc
three_lines false true true true f g h live e = cc
three_lines false true true false f g h live e = (refl, refl, refl)

live_inside : (b : List ℕ) (k : ℕ) → (k == 0) ≡ false → passes (symbol_checks b k) ≡ Ok tt → IsSymbolInside b k (symbol_from b k)
unfolding symbol_checks symbol_from
live_inside b k live e =
    let n = symbol_name_len b (entry b k).name in
    let p = three_lines (k == 0) (is_some n) (is_some (place_at b k)) (is_bad_symbol b k (symbol_from b k)) _ _ _ live e in
    let s = symbol_sound b k (symbol_from b k) p.2 in
    let stands = stands_within b k p.1 in
    let P : Place → Type 0 = λ q. IsPlaceWithin (section_count b) q in
    record {
      name = name_within b (strings_from b) (strings_size b) (entry b k).name p.0;
      place = stands;
      value = λ j is written. value_within b (symbol_from b k).place (symbol_from b k).value j s.past is (subst P is stands).0 written;
      among = s.among;
      named = s.named;
      below = s.below;
      above = λ low le. s.above le;
      common = λ is. s.common (ap is_common is);
    }

pub symbol_inside : (b : List ℕ) (k : ℕ) → passes (all_symbol_checks b) ≡ Ok tt → k < symbol_count b → IsSymbolInside b k (symbol_of b k)
unfolding symbol_of
symbol_inside b k e lt =
    cond_both (k == 0) (null_symbol (entry b k).value (entry b k).size) (symbol_from b k) (λ (s : Symbol). IsSymbolInside b k s)
    (λ z. null_inside b k _ _ (eqb-true k 0 z))
    (λ live. live_inside b k live (each (symbol_checks b) 0 (symbol_count b) k e (omega arith) lt))

pub null_is : (b : List ℕ) → IsNullSymbol (symbol_of b 0)
unfolding symbol_of
null_is b = record { name = refl; binding = refl; sort = refl; place = refl }

-- the symbol table and how many entries are local
record IsSymtabInside (b : List ℕ) : Type 0 where
  locals : ℕ
  few : locals ≤ symbol_count b
  entries : SYM_SIZE * symbol_count b ≤ length b
  is : symbol_count b ≢ 0 → locals ≡ (header b (symtab_of b)).info

last_false : (a c d f g h : Bool) → (a && (c || (d || (f || (not g || h))))) ≡ false → a ≡ true → h ≡ false
last_false a c d f g true e is = grind arith
last_false a c d f g false e is = refl

few_locals : (b : List ℕ) (earlier k : ℕ) → is_bad_symtab b earlier (header b k) ≡ false → (header b k).sh_type ≡ SHT_SYMTAB → (header b k).info ≤ (header b k).size / SYM_SIZE
unfolding is_bad_symtab
few_locals b earlier k e is =
    let h = header b k in
    ltb-false _ _ (last_false (h.sh_type == SHT_SYMTAB) (not (earlier == 0)) (not (h.entsize == SYM_SIZE)) (not (h.size % SYM_SIZE == 0)) (is_strtab b h.link)
    (nat_lt (h.size / SYM_SIZE) h.info) e (eq-eqb _ _ is))

symtab_inside : (b : List ℕ) → passes (all_section_checks b) ≡ Ok tt → IsSymtabInside b
symtab_inside b e =
    elim (cases_eq (symtab_of b) 0) [
      | inl none ↦
          let empty = no_symbols b none in
          record { locals = 0; few = omega arith; entries = omega (arith, empty); is = λ some. absurd (some empty) }
      | inr some ↦
          let t = has_first b SHT_SYMTAB some in
          let r = readable b e some in
          let live : (header b (symtab_of b)).sh_type ≢ SHT_NULL = λ z. absurd (omega (arith, t.is)) in
          let few = few_locals b _ (symtab_of b) (sound_at b (symtab_of b) e t.low t.high live).table t.is in
          record {
            locals = (header b (symtab_of b)).info;
            few = omega (arith, few, r.count);
            entries = omega (arith, r.within, r.count);
            is = λ any. refl;
          }
    ]

-- local symbols stand first, symbol 0 among them
locals_first : (symbols : List Symbol) (locals : ℕ) → locals ≤ length symbols →
    ((k : ℕ) (d : Symbol) → k < length symbols → k < locals → (get_or symbols k d).binding ≡ STB_LOCAL) →
    ((k : ℕ) (d : Symbol) → k < length symbols → 0 < k → locals ≤ k → (get_or symbols k d).binding ≢ STB_LOCAL) →
    ((d : Symbol) → 0 < length symbols → (get_or symbols 0 d).binding ≡ STB_LOCAL) → HasLocalsFirst symbols
locals_first symbols locals few low high first =
    record {
      locals = max locals (min 1 (length symbols));
      most = omega arith;
      below = λ k d lt before.
          elim (cases_eq k 0) [
            | inl z ↦ ap (λ j. (get_or symbols j d).binding) z ∙ first d (omega arith)
            | inr other ↦ low k d lt (omega arith)
          ];
      above = λ k d lt after. high k d lt (omega arith) (omega arith);
    }

-- a written section has one of the types that are loaded
pub written_type : (b : List ℕ) (s : Section) → is_written b s ≡ true → (is_loaded s ≡ true) × (is_among loaded_types s.sh_type ≡ true)
unfolding is_written
written_type b s e =
    let p = and_parts (is_loaded s) (is_among loaded_types s.sh_type && not (bytes_eq (text_of b s.name) (codes ".eh_frame"))) e in
    let q = and_parts (is_among loaded_types s.sh_type) (not (bytes_eq (text_of b s.name) (codes ".eh_frame"))) p.1 in
    (p.0, q.0)

pub written_live : (b : List ℕ) (s : Section) → is_written b s ≡ true → s.sh_type ≢ SHT_NULL
written_live b s e null =
    let typed = (written_type b s e).1 in
    let none : is_among loaded_types s.sh_type ≡ false = ap (is_among loaded_types) null in
    let no : ⊥ = cc in no

frame_type : (b : List ℕ) (s : Section) → is_frame b s ≡ true → s.sh_type ≡ SHT_PROGBITS
unfolding is_frame
frame_type b s e =
    let named = bytes_eq (text_of b s.name) (codes ".eh_frame") in
    let p = and_parts (is_loaded s) (s.sh_type == SHT_PROGBITS && named) e in
    let q = and_parts (s.sh_type == SHT_PROGBITS) named p.1 in
    eqb-true s.sh_type SHT_PROGBITS q.0

-- so has one that is read
pub read_live : (b : List ℕ) (s : Section) → is_read b s ≡ true → s.sh_type ≢ SHT_NULL
unfolding is_read
read_live b s e = by (is_written b s) refl e
  where
    by : (w : Bool) → is_written b s ≡ w → (w || is_frame b s) ≡ true → s.sh_type ≢ SHT_NULL
    by true written read = written_live b s written
    by false other frame = λ null. absurd (omega (arith, frame_type b s frame, null))

pub written_read : (b : List ℕ) (s : Section) → is_written b s ≡ true → is_read b s ≡ true
unfolding is_read
written_read b s e = rw e refl

pub symbols_pass : (b : List ℕ) (head : HeadView) → HeadOf b head → passes (all_symbol_checks b) ≡ Ok tt
unfolding head_checks
symbols_pass b head is =
    let rest = (both_pass (header_checks b) (all_section_checks b ++ all_symbol_checks b) (tt {0}) (tt {0}) (ok_from_none (head_checks b) (tt {0}) is.sound)).1 in
    (both_pass (all_section_checks b) (all_symbol_checks b) (tt {0}) (tt {0}) rest).1

symtab_low : (b : List ℕ) → 0 < section_count b → symtab_of b < section_count b
symtab_low b some = elim (cases_eq (symtab_of b) 0) [ inl none ↦ omega (arith, none) | inr other ↦ (has_first b SHT_SYMTAB other).high ]

-- a sound head
pub head_inside : (b : List ℕ) (head : HeadView) → HeadOf b head → IsHeadInside b head
head_inside b head is =
    let passed = sections_pass b head is in
    let table = table_of b (header_passes b head is) in
    let symtab = symtab_inside b passed in
    let counted : length head.sections ≡ section_count b = ap length (sections_are b head is) ∙ length_sections b in
    let listed : length head.symbols ≡ symbol_count b = ap length (symbols_are b head is) ∙ length_symbols b in
    let section : (k : ℕ) (d : Section) → k < length head.sections → section_of b k ≡ get_or head.sections k d =
    λ k d lt. sym (section_at b head.sections k d (sections_are b head is) lt) in
    let symbol : (k : ℕ) (d : Symbol) → k < length head.symbols → IsSymbolInside b k (get_or head.symbols k d) =
    λ k d lt. subst (IsSymbolInside b k) (sym (symbol_at b head.symbols k d (symbols_are b head is) lt))
    (symbol_inside b k (symbols_pass b head is) (omega (arith, listed))) in
    let null : (d : Symbol) → 0 < length head.symbols → IsNullSymbol (get_or head.symbols 0 d) =
    λ d lt. subst IsNullSymbol (sym (symbol_at b head.symbols 0 d (symbols_are b head is) lt)) (null_is b) in
    record {
      counted = counted;
      some = omega (arith, counted, table.some);
      few = omega (arith, counted, table.few);
      table = omega (arith, counted, table.within);
      symtab = omega (arith, counted, symtab_is b head is, symtab_low b table.some);
      entries = omega (arith, listed, symtab.entries);
      section_names = λ k d lt.
          subst (λ (s : Section). IsNameWithin (length b) s.name) (section k d lt) (section_named b k passed (omega (arith, counted)));
      symbol_names = λ k d lt. (symbol k d lt).name;
      contents = λ k d lt low read bits.
          let at = section k d lt in
          let P : Section → Type 0 = λ s. s.offset + s.size ≤ length b in
          subst P at
          (section_inside b k passed low (omega (arith, counted))
          (λ z. read_live b (get_or head.sections k d) read (ap (λ (s : Section). s.sh_type) (sym at) ∙ z))
          (λ z. bits (ap (λ (s : Section). s.sh_type) (sym at) ∙ z)));
      places = λ k d lt. subst (λ n. IsPlaceWithin n (get_or head.symbols k d).place) (sym counted) (symbol k d lt).place;
      values = λ k d lt j e stands written.
          let high = subst (IsPlaceWithin (section_count b)) stands (symbol k d lt).place in
          let at = section j e (omega (arith, counted, high.1)) in
          let size = (symbol k d lt).value j stands (ap (is_written b) at ∙ written) in
          omega (arith, size, ap (λ (s : Section). s.size) at);
      among = λ k d lt. (symbol k d lt).among;
      named = λ k d lt. (symbol k d lt).named;
      first = null;
      ordered =
          locals_first head.symbols symtab.locals (omega (arith, listed, symtab.few))
          (λ k d lt low. (symbol k d lt).below (omega (arith, symtab.is (λ z. omega (arith, listed)))))
          (λ k d lt some high. (symbol k d lt).above some (omega (arith, symtab.is (λ z. omega (arith, listed)))))
          (λ d lt. (null d lt).binding);
      commons = λ k d lt. (symbol k d lt).common;
    }

-- what is read of the bytes of a file says these
pub head_is : (b : List ℕ) (head : HeadView) → head_of b ≡ Ok head → HeadOf b head
unfolding head_of
head_is b head e = record { fields = checked_value (head_checks b) (fields_of b) head e; sound = none_from_ok (head_checks b) (fields_of b) head e }

pub head_of_is : (b : List ℕ) (head : HeadView) → head_of b ≡ Ok head → IsHeadInside b head
head_of_is b head e = head_inside b head (head_is b head e)
