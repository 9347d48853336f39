-- Rows that are numbered by the first equal one number the items that they are of.
use Rattle.std.proofs.Common.{◌≡◌, ℕ, ◌<◌, ◌≤◌, List, [], length, get_or, Bool, sym, ap, ◌∙◌, subst, ⊎_elim, arith}
use Rattle.std.specs.List.{position_or_len}
use Rattle.std.specs.Str.{bytes_eq}
use Rattle.std.proofs.lemmas.Bool.{both_ways, cases_lt}
use Rattle.std.proofs.lemmas.List.{get_or-map, length-map}
use Rattle.std.proofs.lemmas.List.Elements.{Contains-get_or}
use Rattle.std.proofs.lemmas.List.FromFn.{length-map-range_with_len, get_or-map-range_with_len}
use Rattle.std.proofs.lemmas.List.Sums.{fails_before_first}
use Rattle.std.proofs.lemmas.Slice.Eq.{bytes_eq-Decides}
use Rattle.name_numbers.specs.Texts.{text_at, text_number, text_numbers}
use Rattle.name_numbers.proofs.TextPlaces.{number_of_text, number_tells}
use Rattle.icf_part.specs.Numbered.{IsNumbering}
use Rattle.icf_part.specs.Signatures.{AreRows, row_bytes}
use Rattle.icf_part.proofs.Rows.{row_told}

-- the number of a text is none after an equal one
first_is_least : (texts : List (List ℕ)) (text : List ℕ) (b : ℕ) → b < length texts → text_at texts b ≡ text → text_number texts text ≤ b
unfolding text_number
first_is_least texts text b lt same =
    let test : List ℕ → Bool = λ t. bytes_eq t text in
    let own = bytes_eq-Decides (text_at texts b) text in
    ⊎_elim
    (λ (early : b < position_or_len test texts). absurd (both_ways (test (text_at texts b)) (fails_before_first test texts b [] early) (own.1 same)))
    (λ (late : position_or_len test texts ≤ b). late)
    (cases_lt b (position_or_len test texts))

pub number_at : (texts : List (List ℕ)) (a : ℕ) → a < length texts → get_or (text_numbers texts) a 0 ≡ text_number texts (text_at texts a)
unfolding text_numbers
number_at texts a lt = get_or-map (text_number texts) texts a [] 0 lt

pub numbers_wide : (texts : List (List ℕ)) → length (text_numbers texts) ≡ length texts
unfolding text_numbers
numbers_wide texts = length-map texts (text_number texts)

-- equal numbers are of equal texts
pub numbers_tell : (texts : List (List ℕ)) (a b : ℕ) → a < length texts → b < length texts →
    get_or (text_numbers texts) a 0 ≡ get_or (text_numbers texts) b 0 → text_at texts a ≡ text_at texts b
numbers_tell texts a b la lb e =
    number_tells texts (text_at texts a) (text_at texts b) (Contains-get_or texts a [] la) (Contains-get_or texts b [] lb)
    (sym (number_at texts a la) ∙ e ∙ number_at texts b lb)

pub numbers_same : (texts : List (List ℕ)) (a b : ℕ) → a < length texts → b < length texts → text_at texts a ≡ text_at texts b →
    get_or (text_numbers texts) a 0 ≡ get_or (text_numbers texts) b 0
numbers_same texts a b la lb e = number_at texts a la ∙ ap (text_number texts) e ∙ sym (number_at texts b lb)

-- the number of a text is that of a text
pub numbers_within : (texts : List (List ℕ)) (a : ℕ) → a < length (text_numbers texts) → get_or (text_numbers texts) a 0 < length (text_numbers texts)
numbers_within texts a lt =
    let la : a < length texts = omega (arith, lt, numbers_wide texts) in
    let inside = (number_of_text texts (text_at texts a) (Contains-get_or texts a [] la)).within in
    omega (arith, inside, number_at texts a la, numbers_wide texts)

module _ (words : ℕ → List ℕ) (n : ℕ) (rows : List (List ℕ)) (are : AreRows words n rows) where
  rows_wide : length rows ≡ n
  rows_wide = ap length are.rows_are ∙ length-map-range_with_len (λ a. row_bytes (words a)) 0 n

  row_at : (a : ℕ) → a < n → text_at rows a ≡ row_bytes (words a)
  row_at a lt = ap (λ l. text_at l a) are.rows_are ∙ get_or-map-range_with_len (λ k. row_bytes (words k)) 0 n a a [] lt (omega arith)

  words_told : (a b : ℕ) → a < n → b < n → text_at rows a ≡ text_at rows b → words a ≡ words b
  words_told a b la lb e = row_told (words a) (words b) (are.fit a la) (are.fit b lb) (sym (row_at a la) ∙ e ∙ row_at b lb)

  words_same : (a b : ℕ) → a < n → b < n → words a ≡ words b → text_at rows a ≡ text_at rows b
  words_same a b la lb e = row_at a la ∙ ap row_bytes e ∙ sym (row_at b lb)

  within : (a : ℕ) → a < n → a < length rows
  within a lt = omega (arith, rows_wide)

  numbered : IsNumbering words n (text_numbers rows)
  numbered = record {
    wide = numbers_wide rows ∙ rows_wide;
    tells = λ a b la lb e. words_told a b la lb (numbers_tell rows a b (within a la) (within b lb) e);
    same = λ a b la lb e. numbers_same rows a b (within a la) (within b lb) (words_same a b la lb e);
    within = λ a la.
        let of = number_of_text rows (text_at rows a) (Contains-get_or rows a [] (within a la)) in
        let inside = of.within in
        omega (arith, inside, rows_wide, number_at rows a (within a la));
    own = λ a la.
        let of = number_of_text rows (text_at rows a) (Contains-get_or rows a [] (within a la)) in
        let inside = of.within in
        let is = number_at rows a (within a la) in
        words_told (get_or (text_numbers rows) a 0) a (omega (arith, inside, rows_wide, is)) la (ap (text_at rows) is ∙ of.same);
    least = λ a b la lb e.
        let is = number_at rows a (within a la) in
        let low = first_is_least rows (text_at rows a) b (within b lb) (words_same b a lb la e) in
        omega (arith, is, low);
  }

  pub numbering : (c : List ℕ) → c ≡ text_numbers rows → IsNumbering words n c
  numbering c is = let P : List ℕ → Type 0 = IsNumbering words n in subst P (sym is) numbered
