-- The first of the names that is a text: names stand in order of their symbols' numbers.
use Rattle.std.proofs.Common.{◌≡◌, ℕ, zero, suc, ◌+◌, ◌<◌, ◌≤◌, Bool, true, false, if◌then◌else◌, List, [], ◌∷◌, ◌++◌, length, get_or, All, Contains, refl, sym, ap, ◌∙◌, subst, ⊎_elim, arith}
use Rattle.std.specs.Prelude.{flat_map, find}
use Rattle.std.specs.List.{range_with_len}
use Rattle.std.specs.Str.{bytes_eq}
use Rattle.std.proofs.lemmas.List.Elements.{All-nil, All-cons, All-weaker, All-contains, Contains-append_right, Contains-append_cases}
use Rattle.std.proofs.lemmas.Bool.{cases_Bool, cond-true, cond-false, both_ways}
use Rattle.std.proofs.lemmas.Slice.Eq.{bytes_eq-Decides}
use Rattle.lk_tables.specs.Files.{File, file_at, symbol_at, symbol_name, first_symbol, symbol_no}
use Rattle.lk_tables.specs.NameNumbers.{is_named, Named, name_at, names_in, names, number_or, number_of}
use Rattle.lk_tables.proofs.BoundHas.{one_if}
use Rattle.lk_tables.proofs.FirstNumbers.{first_more}
use Rattle.name_numbers.proofs.Walks.{all_range, in_range, in_if}

-- places rise from `low` on, and stay below `high`
abbrev pub Rise : {X : Type 0} → (X → ℕ) → (low high : ℕ) → List X → Type 0
Rise place low high [] = low ≤ high
Rise place low high (x ∷ xs) = (low ≤ place x) × Rise place (place x + 1) high xs

module _ {X : Type 0} (place : X → ℕ) where
  rise_lower : (a low high : ℕ) (xs : List X) → a ≤ low → Rise place low high xs → Rise place a high xs
  rise_lower a low high [] le r = omega arith
  rise_lower a low high (x ∷ xs) le r = let first = r.0 in (omega arith, r.1)

  rise_append : (low mid high : ℕ) (xs ys : List X) → Rise place low mid xs → Rise place mid high ys → Rise place low high (xs ++ ys)
  rise_append low mid high [] ys r s = rise_lower low mid high ys r s
  rise_append low mid high (x ∷ xs) ys r s = (r.0, rise_append (place x + 1) mid high xs ys r.1 s)

  rise_range : (g : ℕ → List X) (b : ℕ → ℕ) (a n : ℕ) → ((j : ℕ) → a ≤ j → j < a + n → Rise place (b j) (b (j + 1)) (g j)) → Rise place (b a) (b (a + n)) (flat_map g (range_with_len a n))
  rise_range g b a zero each = let e : a ≡ a + 0 = omega arith in let same : b a ≡ b (a + 0) = ap b e in omega arith
  rise_range g b a (suc n) each =
      let e : a + 1 + n ≡ a + suc n = omega arith in
      let P : ℕ → Type 0 = λ h. Rise place (b (a + 1)) h (flat_map g (range_with_len (a + 1) n)) in
      rise_append (b a) (b (a + 1)) (b (a + suc n)) (g a) (flat_map g (range_with_len (a + 1) n)) (each a (omega arith) (omega arith))
      (subst P (ap b e) (rise_range g b (a + 1) n (λ j low high. each j (omega arith) (omega arith))))

  pub rise_if : (b : Bool) (low : ℕ) (x : X) → place x ≡ low → Rise place low (low + 1) (if b then x ∷ [] else [])
  rise_if true low x is = (omega arith, omega arith)
  rise_if false low x is = omega arith

  -- one or none for each symbol of the files
  pub rise_files : (files : List File) (cell : ℕ → ℕ → List X) → ((f i : ℕ) → Rise place (symbol_no files f i) (symbol_no files f i + 1) (cell f i)) →
      Rise place (first_symbol files 0) (first_symbol files (0 + length files)) (flat_map (λ f. flat_map (cell f) (range_with_len 0 (length (file_at files f).head.symbols))) (range_with_len 0 (length files)))
  rise_files files cell each =
      rise_range (λ f. flat_map (cell f) (range_with_len 0 (length (file_at files f).head.symbols))) (first_symbol files) 0 (length files) (λ f low high.
      let n = length (file_at files f).head.symbols in
      let row = flat_map (cell f) (range_with_len 0 n) in
      let own : Rise place (first_symbol files f + 0) (first_symbol files f + (0 + n)) row =
      rise_range (cell f) (λ i. first_symbol files f + i) 0 n (λ i low2 high2.
      let e : first_symbol files f + i + 1 ≡ first_symbol files f + (i + 1) = omega arith in
      let P : ℕ → Type 0 = λ h. Rise place (first_symbol files f + i) h (cell f i) in
      subst P e (each f i)) in
      let start : first_symbol files f + 0 ≡ first_symbol files f = omega arith in
      let end : first_symbol files f + (0 + n) ≡ first_symbol files (f + 1) = omega (arith, first_more files f (omega arith)) in
      let P : ℕ → Type 0 = λ a. Rise place a (first_symbol files f + (0 + n)) row in
      let Q : ℕ → Type 0 = λ h. Rise place (first_symbol files f) h row in
      subst Q end (subst P start own))

  -- how many there are, and each after those before
  pub rise_count : (low high : ℕ) (xs : List X) → Rise place low high xs → low + length xs ≤ high
  rise_count low high [] r = omega (arith, r)
  rise_count low high (x ∷ xs) r = let first = r.0 in omega (arith, first, rise_count (place x + 1) high xs r.1)

  rise_low : (low high : ℕ) (xs : List X) (d : X) (k : ℕ) → Rise place low high xs → k < length xs → low ≤ place (get_or xs k d)
  rise_low low high [] d k r lt = absurd (omega arith)
  rise_low low high (x ∷ xs) d zero r lt = let first = r.0 in omega (arith, first)
  rise_low low high (x ∷ xs) d (suc k) r lt = let first = r.0 in omega (arith, first, rise_low (place x + 1) high xs d k r.1 (omega arith))

  pub rise_at : (low high : ℕ) (xs : List X) (d : X) (j k : ℕ) → Rise place low high xs → j < k → k < length xs → place (get_or xs j d) < place (get_or xs k d)
  rise_at low high [] d j k r less lt = absurd (omega arith)
  rise_at low high (x ∷ xs) d j zero r less lt = absurd (omega arith)
  rise_at low high (x ∷ xs) d zero (suc k) r less lt = omega (arith, rise_low (place x + 1) high xs d k r.1 (omega arith))
  rise_at low high (x ∷ xs) d (suc j) (suc k) r less lt = rise_at (place x + 1) high xs d j k r.1 (omega arith) (omega arith)

abbrev named : List ℕ → ℕ → Named
named text at = record { text = text; at = at }

abbrev place_of_name : Named → ℕ
place_of_name n = n.at

names_rise : (files : List File) → Rise place_of_name (first_symbol files 0) (first_symbol files (0 + length files)) (names files)
unfolding names names_in name_at
names_rise files =
    rise_files place_of_name files (name_at files) (λ f i.
    rise_if place_of_name (is_named (symbol_at (file_at files f) i)) (symbol_no files f i) (named (symbol_name (file_at files f) i) (symbol_no files f i)) refl)

later : (low high : ℕ) (ns : List Named) → Rise place_of_name low high ns → All (λ n. low ≤ n.at) ns
later low high [] r = All-nil (λ (n : Named). low ≤ n.at)
later low high (n ∷ ns) r =
    let first = r.0 in
    All-cons (λ (m : Named). low ≤ m.at) n ns first
    (All-weaker (λ (m : Named). n.at + 1 ≤ m.at) (λ (m : Named). low ≤ m.at) (λ m le. omega arith) ns (later (n.at + 1) high ns r.1))

-- the first name that is the text of n
pub record IsFirstName (ns : List Named) (text : List ℕ) (number : ℕ) : Type 0 where
  pub one : Named
  pub listed : Contains ns one
  pub same : one.text ≡ text
  pub is : one.at ≡ number
  pub most : (m : Named) → Contains ns m → m.text ≡ text → number ≤ m.at

found_here : (low high : ℕ) (x : Named) (xs : List Named) (text : List ℕ) → Rise place_of_name low high (x ∷ xs) → x.text ≡ text → IsFirstName (x ∷ xs) text x.at
found_here low high x xs text r is = record {
  one = x;
  listed = (0, omega arith, refl);
  same = is;
  is = refl;
  most = λ m has same. All-contains (λ (k : Named). x.at ≤ k.at) (x ∷ xs) m (All-cons (λ (k : Named). x.at ≤ k.at) x xs (omega arith) (All-weaker (λ (k : Named). x.at + 1 ≤ k.at) (λ (k : Named). x.at ≤ k.at) (λ k le. omega arith) xs (later (x.at + 1) high xs r.1))) has;
}

found_later : (x : Named) (xs : List Named) (text : List ℕ) (number : ℕ) → (x.text ≡ text → ⊥) → IsFirstName xs text number → IsFirstName (x ∷ xs) text number
found_later x xs text number other f = record {
  one = f.one;
  listed = Contains-append_right (x ∷ []) xs f.one f.listed;
  same = f.same;
  is = f.is;
  most = λ m has same. ⊎_elim
      (λ (first : Contains (x ∷ []) m). let e : x ≡ m = All-contains (λ (k : Named). x ≡ k) (x ∷ []) m (All-cons (λ (k : Named). x ≡ k) x [] refl (All-nil (λ (k : Named). x ≡ k))) first in absurd (other (ap (λ (k : Named). k.text) e ∙ same)))
      (λ (rest : Contains xs m). f.most m rest same)
      (Contains-append_cases (x ∷ []) xs m has);
}

pub first_name : (low high : ℕ) (ns : List Named) (text : List ℕ) → Rise place_of_name low high ns → (n : Named) → Contains ns n → n.text ≡ text → IsFirstName ns text (number_of ns text)
unfolding number_of
first_name low high [] text r n has same = let lt = has.1 in absurd (omega arith)
first_name low high (x ∷ xs) text r n has same =
    let d = bytes_eq-Decides x.text text in
    let P : ℕ → Type 0 = IsFirstName (x ∷ xs) text in
    ⊎_elim
    (λ (eq : bytes_eq x.text text ≡ true). subst P (sym (ap number_or (cond-true (bytes_eq x.text text) _ (find (λ m. bytes_eq m.text text) xs) eq))) (found_here low high x xs text r (d.0 eq)))
    (λ (ne : bytes_eq x.text text ≡ false).
    let other : x.text ≡ text → ⊥ = λ e. both_ways (bytes_eq x.text text) ne (d.1 e) in
    let rest : Contains xs n = ⊎_elim
    (λ (first : Contains (x ∷ []) n). let e : x ≡ n = All-contains (λ (k : Named). x ≡ k) (x ∷ []) n (All-cons (λ (k : Named). x ≡ k) x [] refl (All-nil (λ (k : Named). x ≡ k))) first in absurd (other (ap (λ (k : Named). k.text) e ∙ same)))
    (λ (later : Contains xs n). later)
    (Contains-append_cases (x ∷ []) xs n has) in
    subst P (sym (ap number_or (cond-false (bytes_eq x.text text) _ (find (λ m. bytes_eq m.text text) xs) ne)))
    (found_later x xs text (number_of xs text) other (first_name (x.at + 1) high xs text r.1 n rest same)))
    (cases_Bool (bytes_eq x.text text))

-- the first symbol that has a name
pub record IsNamesake (files : List File) (text : List ℕ) (number : ℕ) : Type 0 where
  pub file : ℕ
  pub symbol : ℕ
  pub within : file < length files
  pub inside : symbol < length (file_at files file).head.symbols
  pub named : is_named (symbol_at (file_at files file) symbol) ≡ true
  pub same : symbol_name (file_at files file) symbol ≡ text
  pub is : symbol_no files file symbol ≡ number

pub name_is : (files : List File) (n : Named) → Contains (names files) n → IsNamesake files n.text n.at
unfolding names names_in name_at
name_is files n has =
    let P : Named → Type 0 = λ m. IsNamesake files m.text m.at in
    All-contains P (names files) n
    (all_range P (names_in files) 0 (length files) (λ f low high.
    all_range P (name_at files f) 0 (length (file_at files f).head.symbols) (λ i low2 high2.
    one_if P (is_named (symbol_at (file_at files f) i)) (named (symbol_name (file_at files f) i) (symbol_no files f i)) (λ is.
    record { file = f; symbol = i; within = omega arith; inside = omega arith; named = is; same = refl; is = refl }))))
    has

pub name_has : (files : List File) (f i : ℕ) → f < length files → i < length (file_at files f).head.symbols → is_named (symbol_at (file_at files f) i) ≡ true → Contains (names files) (named (symbol_name (file_at files f) i) (symbol_no files f i))
unfolding names names_in name_at
name_has files f i lt inside is =
    let n = named (symbol_name (file_at files f) i) (symbol_no files f i) in
    in_range (names_in files) 0 (length files) f n (omega arith) (omega arith)
    (in_range (name_at files f) 0 (length (file_at files f).head.symbols) i n (omega arith) (omega arith)
    (in_if (is_named (symbol_at (file_at files f) i)) n is))

-- a symbol's name has the number of the first symbol that has it
pub record HasNumber (files : List File) (text : List ℕ) (number : ℕ) : Type 0 where
  pub first : IsNamesake files text number
  pub most : (f i : ℕ) → f < length files → i < length (file_at files f).head.symbols → is_named (symbol_at (file_at files f) i) ≡ true → symbol_name (file_at files f) i ≡ text → number ≤ symbol_no files f i

pub has_number : (files : List File) (f i : ℕ) → f < length files → i < length (file_at files f).head.symbols → is_named (symbol_at (file_at files f) i) ≡ true → HasNumber files (symbol_name (file_at files f) i) (number_of (names files) (symbol_name (file_at files f) i))
has_number files f i lt inside is =
    let text = symbol_name (file_at files f) i in
    let number = number_of (names files) text in
    let n = first_name (first_symbol files 0) (first_symbol files (0 + length files)) (names files) text (names_rise files) (named text (symbol_no files f i)) (name_has files f i lt inside is) refl in
    let P : List ℕ → Type 0 = λ t. IsNamesake files t n.one.at in
    let Q : ℕ → Type 0 = IsNamesake files text in
    record {
      first = subst Q n.is (subst P n.same (name_is files n.one n.listed));
      most = λ g j less also named same. n.most _ (name_has files g j less also named) same;
    }
