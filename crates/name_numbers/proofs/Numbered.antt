-- The numbers that the marks come to are those of the names.
use Rattle.std.proofs.Common.{◌≡◌, ◌≢◌, ℕ, zero, suc, ◌+◌, ◌-◌, ◌<◌, ◌≤◌, ◌==◌, ◌&&◌, true, false, List, length, map, get_or, Contains, refl, sym, ap, ◌∙◌, subst, ⊎_elim, arith}
use Rattle.std.specs.List.{range_with_len}
use Rattle.std.proofs.lemmas.List.FromFn.{fill_by_all}
use Rattle.std.proofs.lemmas.List.{get_or_default, length-map}
use Rattle.std.proofs.lemmas.List.Elements.{Contains-get_or}
use Rattle.std.proofs.Math.Nat.{eq-or-lt_of_le}
use Rattle.std.proofs.lemmas.Bool.{cases_Bool, cases_eq, cases_lt, cases_order, cond-true, cond-false, both_ways}
use Rattle.lk_tables.specs.Files.{File, file_at, symbol_at, symbol_name, first_symbol, symbol_no, symbol_total, by_symbol}
use Rattle.lk_tables.specs.declared.numbering.NameNumbers.{NameNumbers}
use Rattle.lk_tables.specs.NameNumbers.{is_named, names, number_of, name_number, NumbersNames, heads_alone}
use Rattle.name_numbers.proofs.Walks.{same_map}
use Rattle.lk_tables.proofs.ByNumber.{read_by_symbol, length_by_symbol, by_symbol_same, by_symbol_alone, name_number_alone, first_symbol_alone, length_heads}
use Rattle.lk_tables.proofs.FirstNumbers.{first_more, first_upto, first_all, first_within}
use Rattle.name_numbers.specs.Keys.{KeyView, key_in, key_of, keys, keys_in, first_in, first_no, firsts, followed, text_of_key, place_of_key}
use Rattle.name_numbers.specs.Marks.{AreMarked, IsLeastOf, Marks}
use Rattle.name_numbers.specs.Texts.{text_at, text_number, text_numbers}
use Rattle.name_numbers.specs.Spans.{first_span}
use Rattle.name_numbers.proofs.FirstSpans.{first_is, first_own, first_le, text_same}
use Rattle.name_numbers.proofs.Columns.{place_column, text_column}
use Rattle.name_numbers.proofs.Keyed.{key_is, key_has, no_view}
use Rattle.name_numbers.proofs.NameOrder.{Rise, has_number, rise_at, rise_count, rise_files, rise_if}
use Rattle.name_numbers.proofs.TextPlaces.{first_text}

-- one number, one symbol
apart : (files : List File) (f g i j : ℕ) → f < length files → i < length (file_at files f).head.symbols → f < g → symbol_no files f i ≡ symbol_no files g j → ⊥
apart files f g i j lt inside less e = omega (arith, first_more files f lt, first_upto files (f + 1) g (omega arith))

pub one_file : (files : List File) (f g i j : ℕ) → f < length files → g < length files → i < length (file_at files f).head.symbols → j < length (file_at files g).head.symbols → symbol_no files f i ≡ symbol_no files g j → f ≡ g
one_file files f g i j lt less inside also e = ⊎_elim
    (λ (same : f ≡ g). same)
    (λ other. ⊎_elim (λ (low : f < g). absurd (apart files f g i j lt inside low e)) (λ (high : g < f). absurd (apart files g f j i less also high (sym e))) other)
    (cases_order f g)

pub one_symbol : (files : List File) (f g i j : ℕ) → f ≡ g → symbol_no files f i ≡ symbol_no files g j → i ≡ j
one_symbol files f g i j same e = let first : first_symbol files f ≡ first_symbol files g = ap (first_symbol files) same in omega arith

-- the symbol of a number
pub record IsOwner (files : List File) (s : ℕ) : Type 0 where
  pub file : ℕ
  pub symbol : ℕ
  pub within : file < length files
  pub inside : symbol < length (file_at files file).head.symbols
  pub is : symbol_no files file symbol ≡ s

owner_below : (files : List File) (n s : ℕ) → n ≤ length files → s < first_symbol files n → IsOwner files s
owner_below files zero s le lt = absurd (omega arith)
owner_below files (suc n) s le lt = ⊎_elim
    (λ (early : s < first_symbol files n). owner_below files n s (omega arith) early)
    (λ (late : first_symbol files n ≤ s).
    let e : suc n ≡ n + 1 = omega arith in
    let next : first_symbol files (suc n) ≡ first_symbol files (n + 1) = ap (first_symbol files) e in
    record { file = n; symbol = s - first_symbol files n; within = omega arith; inside = omega (arith, first_more files n (omega arith)); is = omega arith })
    (cases_lt s (first_symbol files n))

pub owner : (files : List File) (s : ℕ) → s < symbol_total files → IsOwner files s
owner files s lt = owner_below files (length files) s (omega arith) (omega (arith, first_all files (length files) refl))

key_within : (files : List File) (v : KeyView) → Contains (keys files) v → v.at < symbol_total files
key_within files v has =
    let a = key_is files v has in
    let inside = a.inside in
    omega (arith, ap place_of_key a.is, first_within files a.file a.within)

pub length_firsts_is : (files : List File) → length (firsts files) ≡ symbol_total files
unfolding firsts
length_firsts_is files = length_by_symbol files (first_no files)

-- places of keys rise, and stay below the count of symbols
keys_rise : (files : List File) → Rise place_of_key (first_symbol files 0) (first_symbol files (0 + length files)) (keys files)
unfolding keys keys_in key_in
keys_rise files =
    rise_files place_of_key files (λ f i. key_in (file_at files f).bytes (file_at files f).head.symbols (first_symbol files f) i) (λ f i.
    rise_if place_of_key (is_named (symbol_at (file_at files f) i) && first_span (file_at files f).head.symbols i == i) (symbol_no files f i) (key_of (symbol_name (file_at files f) i) (symbol_no files f i)) refl)

keys_rise_at : (files : List File) (j k : ℕ) → j < k → k < length (keys files) → place_of_key (get_or (keys files) j no_view) < place_of_key (get_or (keys files) k no_view)
keys_rise_at files j k less lt = rise_at place_of_key (first_symbol files 0) (first_symbol files (0 + length files)) (keys files) no_view j k (keys_rise files) less lt

pub keys_few : (files : List File) → length (keys files) ≤ symbol_total files
keys_few files =
    omega (arith, rise_count place_of_key (first_symbol files 0) (first_symbol files (0 + length files)) (keys files) (keys_rise files), first_all files (0 + length files) (omega arith))

-- the same of the places as they are listed
pub places_rise : (files : List File) (places : List ℕ) → places ≡ map place_of_key (keys files) → (j k : ℕ) → j < k → k < length places → get_or places j 0 < get_or places k 0
places_rise files places is j k less lt =
    let count = ap length is ∙ length-map (keys files) place_of_key in
    let inside : k < length (keys files) = omega (arith, lt, count) in
    omega (arith, keys_rise_at files j k less inside, place_column (keys files) j (omega (arith, less, inside)) places is, place_column (keys files) k inside places is)

pub places_within : (files : List File) (places : List ℕ) → places ≡ map place_of_key (keys files) → (k : ℕ) → k < length places → get_or places k 0 < symbol_total files
places_within files places is k lt =
    let count = ap length is ∙ length-map (keys files) place_of_key in
    let inside : k < length (keys files) = omega (arith, lt, count) in
    omega (arith, key_within files (get_or (keys files) k no_view) (Contains-get_or (keys files) k no_view inside), place_column (keys files) k inside places is)

-- an index for each
pub indexes_wide : (files : List File) (texts : List (List ℕ)) (places indexes : List ℕ) → texts ≡ map text_of_key (keys files) → places ≡ map place_of_key (keys files) → indexes ≡ text_numbers texts → length indexes ≡ length places
unfolding text_numbers
indexes_wide files texts places indexes are at is =
    ap length is ∙ length-map texts (text_number texts) ∙ ap length are ∙ length-map (keys files) text_of_key ∙ sym (ap length at ∙ length-map (keys files) place_of_key)

pub indexes_within : (files : List File) (texts : List (List ℕ)) (places indexes : List ℕ) → texts ≡ map text_of_key (keys files) → places ≡ map place_of_key (keys files) → indexes ≡ text_numbers texts →
    (k : ℕ) → k < length places → get_or indexes k 0 < length places
indexes_within files texts places indexes are at is k lt =
    let count : length places ≡ length texts = ap length at ∙ length-map (keys files) place_of_key ∙ sym (ap length are ∙ length-map (keys files) text_of_key) in
    let f = first_text texts indexes k is (omega (arith, lt, count)) in
    let within = f.within in
    omega (arith, within, count)

-- keys whose places rise, each marked with the place of the first one of its text
marks_of : (list : List KeyView) (texts : List (List ℕ)) (places indexes : List ℕ) → texts ≡ map text_of_key list → places ≡ map place_of_key list → indexes ≡ text_numbers texts →
    ((j k : ℕ) → j < k → k < length list → place_of_key (get_or list j no_view) < place_of_key (get_or list k no_view)) →
    (old ns : List ℕ) → AreMarked places indexes (length places) old ns → Marks text_of_key place_of_key list old ns
marks_of list texts places indexes are at is rise old ns m =
    let count : length places ≡ length list = ap length at ∙ length-map list place_of_key in
    let wide : length texts ≡ length list = ap length are ∙ length-map list text_of_key in
    let key : ℕ → KeyView = λ k. get_or list k no_view in
    record {
      wide = m.wide;
      each = λ x has.
          let k : ℕ = has.0 in
          let lt : k < length list = has.1 in
          let read : key k ≡ x = get_or_default list k no_view x lt ∙ has.2 in
          let f = first_text texts indexes k is (omega (arith, lt, wide)) in
          let q = get_or indexes k 0 in
          let inside : q < length list = let within = f.within in omega (arith, within, wide) in
          let text : text_of_key (key q) ≡ text_of_key (key k) = sym (text_column list q inside texts are) ∙ f.same ∙ text_column list k lt texts are in
          let stands : get_or ns (place_of_key (key k)) 0 ≡ place_of_key (key q) =
          ap (λ p. get_or ns p 0) (sym (place_column list k lt places at)) ∙ m.each k (omega (arith, lt, count)) ∙ place_column list q inside places at in
          let P : KeyView → Type 0 = λ y. IsLeastOf text_of_key place_of_key list y (get_or ns (place_of_key y) 0) in
          subst P read (record {
            one = key q;
            listed = Contains-get_or list q no_view inside;
            same = text;
            is = sym stands;
            most = λ y also same.
                let i : ℕ = also.0 in
                let less : i < length list = also.1 in
                let there : key i ≡ y = get_or_default list i no_view y less ∙ also.2 in
                let own : text_at texts i ≡ text_at texts k = text_column list i less texts are ∙ ap text_of_key there ∙ same ∙ sym (text_column list k lt texts are) in
                let first : q ≤ i = f.most i (omega (arith, less, wide)) own in
                let here = ap place_of_key there in
                ⊎_elim
                (λ (e : q ≡ i). let p : place_of_key (key q) ≡ place_of_key (key i) = ap (λ j. place_of_key (key j)) e in omega (arith, p, here, stands))
                (λ (before : q < i). omega (arith, rise q i before less, here, stands))
                (eq-or-lt_of_le first);
          });
      others = λ s other. m.others s (λ k lt e.
          let inside : k < length list = omega (arith, lt, count) in
          other (key k) (Contains-get_or list k no_view inside) (sym (place_column list k inside places at) ∙ e));
    }

module _ (files : List File) (ns : List ℕ) (m : Marks text_of_key place_of_key (keys files) (firsts files) ns) where
  abbrev number : (f i : ℕ) → ℕ
  number f i = number_of (names files) (symbol_name (file_at files f) i)

  -- what stood at a symbol
  was_named : (f i : ℕ) → f < length files → i < length (file_at files f).head.symbols → is_named (symbol_at (file_at files f) i) ≡ true → get_or (firsts files) (symbol_no files f i) 0 ≡ first_symbol files f + first_span (file_at files f).head.symbols i
  unfolding firsts first_in
  was_named f i lt inside is =
      read_by_symbol files (first_no files) f i 0 lt inside ∙ cond-true (is_named (symbol_at (file_at files f) i)) (first_symbol files f + first_span (file_at files f).head.symbols i) 0 is

  was_other : (f i : ℕ) → f < length files → i < length (file_at files f).head.symbols → is_named (symbol_at (file_at files f) i) ≡ false → get_or (firsts files) (symbol_no files f i) 0 ≡ 0
  unfolding firsts first_in
  was_other f i lt inside is =
      read_by_symbol files (first_no files) f i 0 lt inside ∙ cond-false (is_named (symbol_at (file_at files f) i)) (first_symbol files f + first_span (file_at files f).head.symbols i) 0 is

  -- the first of a span has the number of its name
  first_number : (f i : ℕ) → f < length files → i < length (file_at files f).head.symbols → is_named (symbol_at (file_at files f) i) ≡ true → first_span (file_at files f).head.symbols i ≡ i → get_or ns (symbol_no files f i) 0 ≡ number f i
  first_number f i lt inside is own =
      let v = key_of (symbol_name (file_at files f) i) (symbol_no files f i) in
      let l = m.each v (key_has files f i lt inside is own) in
      let a = key_is files l.one l.listed in
      let h = has_number files f i lt inside is in
      let text : symbol_name (file_at files a.file) a.symbol ≡ symbol_name (file_at files f) i = sym (ap text_of_key a.is) ∙ l.same in
      let low = h.most a.file a.symbol a.within a.inside a.named text in
      let at : symbol_no files a.file a.symbol ≡ get_or ns (symbol_no files f i) 0 = sym (ap place_of_key a.is) ∙ l.is in
      let g = h.first in
      let symbols = (file_at files g.file).head.symbols in
      let q = first_span symbols g.symbol in
      let first = first_is symbols g.symbol g.inside g.named in
      let named = key_has files g.file q g.within first.inside first.named (first_own symbols g.symbol g.inside g.named) in
      let high = l.most _ named (text_same (file_at files g.file).bytes (symbol_at (file_at files g.file) q) (symbol_at (file_at files g.file) g.symbol) first.same ∙ g.same) in
      let le = first_le symbols g.symbol g.inside g.named in
      let number_is = g.is in
      omega arith

  -- every other symbol keeps what it had
  kept : (f i : ℕ) → f < length files → i < length (file_at files f).head.symbols → (is_named (symbol_at (file_at files f) i) ≡ true → first_span (file_at files f).head.symbols i ≢ i) → get_or ns (symbol_no files f i) 0 ≡ get_or (firsts files) (symbol_no files f i) 0
  kept f i lt inside none = m.others (symbol_no files f i) (λ v has e.
      let a = key_is files v has in
      let at : symbol_no files a.file a.symbol ≡ symbol_no files f i = sym (ap place_of_key a.is) ∙ e in
      let file = one_file files a.file f a.symbol i a.within lt a.inside inside at in
      let symbol = one_symbol files a.file f a.symbol i file at in
      let P : ℕ → Type 0 = λ k. is_named (symbol_at (file_at files k) i) ≡ true in
      let Q : ℕ → Type 0 = λ k. is_named (symbol_at (file_at files a.file) k) ≡ true in
      none (subst P file (subst Q symbol a.named))
      (ap (λ k. first_span (file_at files k).head.symbols i) (sym file) ∙ ap (first_span (file_at files a.file).head.symbols) (sym symbol) ∙ a.first ∙ symbol))

  name_number_le : (f i : ℕ) → f < length files → i < length (file_at files f).head.symbols → is_named (symbol_at (file_at files f) i) ≡ true → number f i ≤ symbol_no files f i
  name_number_le f i lt inside is = (has_number files f i lt inside is).most f i lt inside is refl

  -- symbol number 0
  zero_at : (f i : ℕ) → f < length files → i < length (file_at files f).head.symbols → symbol_no files f i ≡ 0 → get_or ns (symbol_no files f i) 0 ≡ 0
  zero_at f i lt inside e = ⊎_elim
      (λ (is : is_named (symbol_at (file_at files f) i) ≡ true). ⊎_elim
      (λ (own : first_span (file_at files f).head.symbols i ≡ i). omega (arith, first_number f i lt inside is own, name_number_le f i lt inside is))
      (λ (other : first_span (file_at files f).head.symbols i ≢ i). omega (arith, kept f i lt inside (λ named. other), was_named f i lt inside is, first_le (file_at files f).head.symbols i inside is))
      (cases_eq (first_span (file_at files f).head.symbols i) i))
      (λ (no : is_named (symbol_at (file_at files f) i) ≡ false). kept f i lt inside (λ named. absurd (both_ways _ no named)) ∙ was_other f i lt inside no)
      (cases_Bool (is_named (symbol_at (file_at files f) i)))

  zero_first : 0 < symbol_total files → get_or ns 0 0 ≡ 0
  zero_first some = let o = owner files 0 some in ap (λ s. get_or ns s 0) (sym o.is) ∙ zero_at o.file o.symbol o.within o.inside o.is

  -- the first of a name, at its number
  at_number : (f i : ℕ) → f < length files → i < length (file_at files f).head.symbols → is_named (symbol_at (file_at files f) i) ≡ true → get_or ns (number f i) 0 ≡ number f i
  at_number f i lt inside is =
      let h = has_number files f i lt inside is in
      let g = h.first in
      let symbols = (file_at files g.file).head.symbols in
      let q = first_span symbols g.symbol in
      let first = first_is symbols g.symbol g.inside g.named in
      let text = text_same (file_at files g.file).bytes (symbol_at (file_at files g.file) q) (symbol_at (file_at files g.file) g.symbol) first.same ∙ g.same in
      let low = h.most g.file q g.within first.inside first.named text in
      let high = first_le symbols g.symbol g.inside g.named in
      let number_is = g.is in
      let own : q ≡ g.symbol = omega arith in
      ap (λ s. get_or ns s 0) (sym g.is) ∙ first_number g.file g.symbol g.within g.inside g.named own ∙ ap (number_of (names files)) g.same

  followed_named : (f i : ℕ) → f < length files → i < length (file_at files f).head.symbols → is_named (symbol_at (file_at files f) i) ≡ true → get_or ns (get_or ns (symbol_no files f i) 0) 0 ≡ number f i
  followed_named f i lt inside is =
      let symbols = (file_at files f).head.symbols in
      let q = first_span symbols i in
      let first = first_is symbols i inside is in
      ⊎_elim
      (λ (own : q ≡ i). ap (λ s. get_or ns s 0) (first_number f i lt inside is own) ∙ at_number f i lt inside is)
      (λ (other : q ≢ i).
      ap (λ s. get_or ns s 0) (kept f i lt inside (λ named. other) ∙ was_named f i lt inside is)
      ∙ first_number f q lt first.inside first.named (first_own symbols i inside is)
      ∙ ap (number_of (names files)) (text_same (file_at files f).bytes (symbol_at (file_at files f) q) (symbol_at (file_at files f) i) first.same))
      (cases_eq q i)

  followed_is : (f i : ℕ) → f < length files → i < length (file_at files f).head.symbols → get_or ns (get_or ns (symbol_no files f i) 0) 0 ≡ name_number files f i
  unfolding name_number
  followed_is f i lt inside = ⊎_elim
      (λ (is : is_named (symbol_at (file_at files f) i) ≡ true). followed_named f i lt inside is ∙ sym (cond-true (is_named (symbol_at (file_at files f) i)) (number f i) 0 is))
      (λ (no : is_named (symbol_at (file_at files f) i) ≡ false).
      ap (λ s. get_or ns s 0) (kept f i lt inside (λ named. absurd (both_ways _ no named)) ∙ was_other f i lt inside no)
      ∙ zero_first (omega (arith, first_within files f lt)) ∙ sym (cond-false (is_named (symbol_at (file_at files f) i)) (number f i) 0 no))
      (cases_Bool (is_named (symbol_at (file_at files f) i)))

  pub numbers_are : followed ns ≡ by_symbol files (name_number files)
  numbers_are =
      let wide : length ns ≡ symbol_total files = m.wide ∙ length_firsts_is files in
      let g : ℕ → ℕ = λ s. get_or ns (get_or ns s 0) 0 in
      sym (fill_by_all g (by_symbol files (name_number files)) (length ns) 0 (length_by_symbol files (name_number files) ∙ sym wide) (λ s lt.
      let o = owner files s (omega arith) in
      ap (λ k. get_or (by_symbol files (name_number files)) k 0) (sym o.is) ∙ read_by_symbol files (name_number files) o.file o.symbol 0 o.within o.inside
      ∙ sym (followed_is o.file o.symbol o.within o.inside) ∙ ap g o.is))

-- the table of all names, from the keys and the numbers of their texts
pub table_of : (files : List File) (texts : List (List ℕ)) (places indexes old ns : List ℕ) → texts ≡ map text_of_key (keys files) → places ≡ map place_of_key (keys files) → indexes ≡ text_numbers texts → old ≡ firsts files →
    AreMarked places indexes (length places) old ns → followed ns ≡ by_symbol files (name_number files)
table_of files texts places indexes old ns are at is was m =
    let P : List ℕ → Type 0 = λ l. Marks text_of_key place_of_key (keys files) l ns in
    numbers_are files ns (subst P was (marks_of (keys files) texts places indexes are at is (λ j k less lt. keys_rise_at files j k less lt) old ns m))

pub alone_numbers : (files : List File) (n : NameNumbers) (count : ℕ) → count ≡ length files → n.starts.items ≡ map (first_symbol files) (range_with_len 0 (count + 1)) → n.numbers.items ≡ by_symbol files (name_number files) → NumbersNames (heads_alone files) n
alone_numbers files n count same starts numbers = record {
  starts = starts ∙ same_map (first_symbol files) (first_symbol (heads_alone files)) 0 (count + 1) (λ j. sym (first_symbol_alone files j))
      ∙ ap (λ k. map (first_symbol (heads_alone files)) (range_with_len 0 (k + 1))) (same ∙ sym (length_heads files));
  numbers = numbers ∙ sym (by_symbol_alone files (name_number files))
      ∙ by_symbol_same (heads_alone files) (name_number files) (name_number (heads_alone files)) (λ f i lt inside. sym (name_number_alone files f i));
}
