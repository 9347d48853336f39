-- The marks of texts' keys are the indexes of the first equal texts.
use Rattle.std.proofs.Common.{◌≡◌, ℕ, ◌+◌, ◌<◌, ◌≤◌, true, false, List, [], ◌∷◌, ◌++◌, length, map, get_or, Bool, Contains, refl, sym, ap, ◌∙◌, subst, ⊎_elim, arith}
use Rattle.std.specs.List.{range_with_len}
use Rattle.std.specs.List.Sorted.{IsPermutation}
use Rattle.std.specs.Str.{bytes_eq}
use Rattle.std.specs.List.{position_or_len}
use Rattle.std.proofs.lemmas.List.{ext_get_or, get_or-map, get_or_default, length-map, map_push}
use Rattle.std.proofs.lemmas.List.FromFn.{length-map-range_with_len, get_or-map-range_with_len}
use Rattle.std.proofs.lemmas.List.Sums.{position_or_len_is, passes_at_first, fails_before_first}
use Rattle.std.proofs.lemmas.List.Elements.{All-contains_itself, All-weaker, Contains-get_or}
use Rattle.std.proofs.lemmas.List.Sorted.{IsPermutation-map}
use Rattle.std.proofs.lemmas.Bool.{cases_Bool, cases_lt, both_ways}
use Rattle.std.proofs.lemmas.Slice.Eq.{bytes_eq-Decides}
use Rattle.intern_race.specs.Hash.{hash_of}
use Rattle.name_numbers.specs.declared.sorting.Key.{Key}
use Rattle.name_numbers.specs.Keys.{KeyView, key_of, key_view, key_views, text_of_key, place_of_key, HaveHashes}
use Rattle.name_numbers.specs.Marks.{Marks}
use Rattle.name_numbers.specs.Texts.{text_at, text_keys, text_number, text_numbers}
use Rattle.name_numbers.proofs.Runs.{marks_moved}
use Rattle.name_numbers.proofs.Keyed.{view_of}
use Rattle.name_numbers.proofs.Walks.{walk_map}

abbrev key_at : List (List ℕ) → ℕ → KeyView
key_at texts i = key_of (text_at texts i) i

-- one of the keys is of the text at its place
pub record IsTextKey (texts : List (List ℕ)) (v : KeyView) : Type 0 where
  pub within : v.at < length texts
  pub text : v.text ≡ text_at texts v.at
  pub hash : v.hash ≡ hash_of v.text

text_key_of : (texts : List (List ℕ)) (i : ℕ) → i < length texts → IsTextKey texts (key_at texts i)
text_key_of texts i lt = record { within = lt; text = refl; hash = refl }

pub text_key_is : (texts : List (List ℕ)) (v : KeyView) → Contains (text_keys texts) v → IsTextKey texts v
unfolding text_keys
text_key_is texts v has =
    let i : ℕ = has.0 in
    let lt : i < length texts = omega (arith, has.1, length-map-range_with_len (key_at texts) 0 (length texts)) in
    let is : key_at texts i ≡ v = sym (get_or-map-range_with_len (key_at texts) 0 (length texts) i i v lt (omega arith)) ∙ has.2 in
    let P : KeyView → Type 0 = IsTextKey texts in
    subst P is (text_key_of texts i lt)

pub text_key_has : (texts : List (List ℕ)) (i : ℕ) → i < length texts → Contains (text_keys texts) (key_at texts i)
unfolding text_keys
text_key_has texts i lt = (
  i,
  omega (arith, lt, length-map-range_with_len (key_at texts) 0 (length texts)),
  get_or-map-range_with_len (key_at texts) 0 (length texts) i i (key_at texts i) lt (omega arith),
)

pub text_keys_hashed : (texts : List (List ℕ)) → HaveHashes (text_keys texts)
text_keys_hashed texts =
    let P : KeyView → Type 0 = λ v. v.hash ≡ hash_of v.text in
    All-weaker (Contains (text_keys texts)) P (λ v has. (text_key_is texts v has).hash) (text_keys texts) (All-contains_itself (text_keys texts))

pub text_keys_once : (texts : List (List ℕ)) (v w : KeyView) → Contains (text_keys texts) v → Contains (text_keys texts) w → v.at ≡ w.at → v.text ≡ w.text
text_keys_once texts v w has also e = (text_key_is texts v has).text ∙ ap (text_at texts) e ∙ sym (text_key_is texts w also).text

-- the keys that were sorted
pub text_keys_moved : (texts : List (List ℕ)) (start sorted slice : List Key) → key_views start ≡ text_keys texts → IsPermutation start sorted → slice ≡ sorted → IsPermutation (text_keys texts) (key_views slice)
text_keys_moved texts start sorted slice is moved read =
    let P : List KeyView → Type 0 = λ l. IsPermutation l (key_views sorted) in
    let Q : List KeyView → Type 0 = IsPermutation (text_keys texts) in
    subst Q (sym (ap key_views read)) (subst P is (IsPermutation-map key_view start sorted moved))

module _ (texts : List (List ℕ)) (old ns : List ℕ) (m : Marks text_of_key place_of_key (text_keys texts) old ns) where
  mark_first : (i : ℕ) → i < length texts → text_number texts (text_at texts i) ≡ get_or ns i 0
  unfolding text_number
  mark_first i lt =
      let text = text_at texts i in
      let l = m.each (key_at texts i) (text_key_has texts i lt) in
      let a = text_key_is texts l.one l.listed in
      let within = a.within in
      let is = l.is in
      let q = get_or ns i 0 in
      let same : text_at texts q ≡ text = sym (ap (text_at texts) l.is) ∙ sym a.text ∙ l.same in
      position_or_len_is (λ t. bytes_eq t text) texts q [] (omega arith)
      (λ k before. ⊎_elim
      (λ (eq : bytes_eq (text_at texts k) text ≡ true).
      let d = bytes_eq-Decides (text_at texts k) text in
      let most = l.most (key_at texts k) (text_key_has texts k (omega arith)) (d.0 eq) in
      absurd (omega arith))
      (λ (no : bytes_eq (text_at texts k) text ≡ false). no)
      (cases_Bool (bytes_eq (text_at texts k) text)))
      (λ below. let d = bytes_eq-Decides (text_at texts q) text in d.1 same)

  pub texts_numbered : length ns ≡ length texts → ns ≡ text_numbers texts
  unfolding text_numbers
  texts_numbered wide =
      ext_get_or 0 ns (map (text_number texts) texts) (wide ∙ sym (length-map texts (text_number texts)))
      (λ i lt. let inside : i < length texts = omega arith in
      sym (mark_first i inside) ∙ sym (get_or-map (text_number texts) texts i [] 0 inside))

-- the same of the keys as they were sorted
pub texts_marked : (texts : List (List ℕ)) (slice : List Key) (old ns : List ℕ) → IsPermutation (text_keys texts) (key_views slice) → length old ≡ length texts → Marks text_of_key place_of_key (key_views slice) old ns → ns ≡ text_numbers texts
texts_marked texts slice old ns moved wide m =
    let own = marks_moved text_of_key place_of_key (text_keys texts) (key_views slice) old ns moved m in
    texts_numbered texts old ns own (own.wide ∙ wide)

-- a number of a text that is there: it is below their count, and that text stands at it
pub record IsNumberOf (texts : List (List ℕ)) (text : List ℕ) (number : ℕ) : Type 0 where
  pub within : number < length texts
  pub same : text_at texts number ≡ text

pub number_of_text : (texts : List (List ℕ)) (text : List ℕ) → Contains texts text → IsNumberOf texts text (text_number texts text)
unfolding text_number
number_of_text texts text has =
    let test : List ℕ → Bool = λ t. bytes_eq t text in
    let at = position_or_len test texts in
    let i : ℕ = has.0 in
    let own = bytes_eq-Decides (get_or texts i []) text in
    let passes : test (get_or texts i []) ≡ true = own.1 (get_or_default texts i [] text has.1 ∙ has.2) in
    let within : at < length texts = ⊎_elim
    (λ (early : i < at). absurd (both_ways (test (get_or texts i [])) (fails_before_first test texts i [] early) passes))
    (λ (late : at ≤ i). let inside = has.1 in omega arith)
    (cases_lt i at) in
    let there = bytes_eq-Decides (get_or texts at []) text in
    record { within = within; same = there.0 (passes_at_first test texts [] within) }

-- the index that is the number of a text: that of the first one equal to it
pub record IsFirstText (texts : List (List ℕ)) (k first : ℕ) : Type 0 where
  pub within : first < length texts
  pub same : text_at texts first ≡ text_at texts k
  pub most : (i : ℕ) → i < length texts → text_at texts i ≡ text_at texts k → first ≤ i

pub first_text : (texts : List (List ℕ)) (numbers : List ℕ) (k : ℕ) → numbers ≡ text_numbers texts → k < length texts → IsFirstText texts k (get_or numbers k 0)
unfolding text_numbers text_number
first_text texts numbers k is lt =
    let text = text_at texts k in
    let test : List ℕ → Bool = λ t. bytes_eq t text in
    let read : get_or numbers k 0 ≡ text_number texts text = ap (λ l. get_or l k 0) is ∙ get_or-map (text_number texts) texts k [] 0 lt in
    let n = number_of_text texts text (Contains-get_or texts k [] lt) in
    let P : ℕ → Type 0 = IsFirstText texts k in
    subst P (sym read) (record {
      within = n.within;
      same = n.same;
      most = λ i less same. ⊎_elim
          (λ (early : i < text_number texts text).
          let d = bytes_eq-Decides (text_at texts i) text in
          absurd (both_ways (test (text_at texts i)) (fails_before_first test texts i [] early) (d.1 same)))
          (λ (late : text_number texts text ≤ i). late)
          (cases_lt i (text_number texts text));
    })

-- texts of one number are equal
pub number_tells : (texts : List (List ℕ)) (s t : List ℕ) → Contains texts s → Contains texts t → text_number texts s ≡ text_number texts t → s ≡ t
number_tells texts s t has also e = sym (number_of_text texts s has).same ∙ ap (text_at texts) e ∙ (number_of_text texts t also).same

-- a loop that lists keys
pub text_key_next : (texts : List (List ℕ)) (i : ℕ) (key : Key) (old new : List Key) → key.name.text.now ≡ text_at texts i → key.name.hash ≡ hash_of key.name.text.now → key.at ≡ i
    → new ≡ old ++ key ∷ [] → key_views old ≡ map (key_at texts) (range_with_len 0 i) → key_views new ≡ map (key_at texts) (range_with_len 0 (i + 1))
text_key_next texts i key old new text hash at push before =
    let one : key_view key ≡ key_at texts i =
    ap (λ t. view_of t key.name.text.now key.at) hash ∙ ap (λ t. view_of (hash_of t) t key.at) text ∙ ap (view_of (hash_of (text_at texts i)) (text_at texts i)) at in
    walk_map (key_at texts) [] (key_views old) (key_views new) (key_view key) i before (ap key_views push ∙ map_push key_view old key) one

pub text_keys_all : (texts : List (List ℕ)) (i : ℕ) (keys : List Key) → i ≡ length texts → key_views keys ≡ map (key_at texts) (range_with_len 0 i) → key_views keys ≡ text_keys texts
unfolding text_keys
text_keys_all texts i keys all is = is ∙ ap (λ n. map (key_at texts) (range_with_len 0 n)) all
