-- Entries added one at a time are those of the distinct uses, numbered.
use Rattle.std.proofs.Common.{◌≡◌, ℕ, suc, ◌+◌, ◌<◌, ◌≤◌, ◌==◌, ◌||◌, not, Bool, true, false, cond, List, [], ◌∷◌, ◌++◌, length, map, get_or, refl, sym, ap, ◌∙◌, subst, arith, inl, inr, eqb}
use Rattle.std.specs.Prelude.{Option, Some, None, is_some, if◌then◌else◌, find, All}
use Rattle.std.specs.List.{filter, list_any, position_or_len, range_with_len, sum_by}
use Rattle.std.specs.Option.{option_or}
use Rattle.std.proofs.Math.Bool.{or-false}
use Rattle.std.proofs.Math.Seq.{get_or-append_seam}
use Rattle.std.proofs.lemmas.Bool.{cases_Bool, eq-eqb, eqb-true, false≢true}
use Rattle.std.proofs.lemmas.List.{append-nil, append_assoc, get_or_append_left, length-append, map-append}
use Rattle.std.proofs.lemmas.List.Elements.{All-filter, All-head, All-tail, filter-append}
use Rattle.std.proofs.lemmas.List.Folds.{find-append, list_any-append, position_or_len_push}
use Rattle.std.proofs.lemmas.List.FromFn.{get_or-range_with_len, length-range_with_len}
use Rattle.std.proofs.lemmas.List.Sums.{prefix_len-le-length, sum_by-cons}
use Rattle.lk_base.proofs.Loops.{range_more}
use Rattle.lk_base.proofs.Ranges.{filter_same}
use Rattle.link_sections.specs.declared.got.GotEntry.{GotEntry}
use Rattle.link_sections.specs.declared.got.GotUse.{GotUse}
use Rattle.link_sections.specs.Distinct.{distinct, element, is_first}
use Rattle.link_sections.specs.GotEntries.{entry_of, eq_keys, is_entry, with_use, word_count, words_of}
use Rattle.link_sections.proofs.GotSteps.{entry_is, own_entry}
use Rattle.got_tls.specs.GotList.{Wanted, all_added, no_wanted, numbered, same_wanted}

pub added_append : (es : List GotEntry) (ws vs : List Wanted) → all_added es (ws ++ vs) ≡ all_added (all_added es ws) vs
added_append es [] vs = refl
added_append es (w ∷ ws) vs = added_append (with_use es w.key w.usage w.file w.symbol) ws vs

-- whether one passes, by the place of the first
eqb_no : (a b : ℕ) → (a ≡ b → ⊥) → eqb a b ≡ false
eqb_no a b differ = elim (cases_Bool (eqb a b)) [
  | inl same ↦ absurd (differ (eqb-true a b same))
  | inr other ↦ other
]

any_step : (b any : Bool) (q n : ℕ) → any ≡ not (eqb q n) → (b || any) ≡ not (eqb (cond (not b) (1 + q) 0) (suc n))
any_step true any q n is = ap not (sym (eqb_no 0 (suc n) (λ e. omega (arith, e))))
any_step false any q n is = is ∙ elim (cases_Bool (eqb q n)) [
  | inl same ↦ ap not (same ∙ sym (eq-eqb (1 + q) (suc n) (omega (arith, eqb-true q n same))))
  | inr other ↦ elim (cases_Bool (eqb (1 + q) (suc n))) [
    | inl equal ↦ absurd (false≢true (sym other ∙ eq-eqb q n (omega (arith, eqb-true (1 + q) (suc n) equal))))
    | inr differ ↦ ap not (other ∙ sym differ)
  ]
]

any_position : {X : Type 0} (p : X → Bool) (xs : List X) → list_any p xs ≡ not (eqb (position_or_len p xs) (length xs))
any_position p [] = ap not (sym (eq-eqb 0 0 refl))
any_position p (x ∷ xs) = any_step (p x) (list_any p xs) (position_or_len p xs) (length xs) (any_position p xs)

-- the distinct elements of a list with one more
not_eq : (b : Bool) → not b ≡ true → b ≡ false
not_eq true e = cc
not_eq false e = refl

map_same : {X : Type 0} (f g : ℕ → X) (ks : List ℕ) → All (λ k. f k ≡ g k) ks → map f ks ≡ map g ks
map_same f g [] all = refl
map_same f g (k ∷ ks) all =
    ap (λ x. x ∷ map f ks) (All-head (λ j. f j ≡ g j) k ks all) ∙ ap (λ l. g k ∷ l) (map_same f g ks (All-tail (λ j. f j ≡ g j) k ks all))

module _ {X : Type 0} (same : X → X → Bool) (d : X) (xs : List X) (x : X) (itself : same x x ≡ true) where
  abbrev longer : List X
  longer = xs ++ x ∷ []

  element_left : (k : ℕ) → k < length xs → element same d longer k ≡ element same d xs k
  element_left k lt = get_or_append_left xs (x ∷ []) d k lt

  element_last : element same d longer (length xs) ≡ x
  element_last = get_or-append_seam xs x [] d

  -- an element is the first of its kind as before
  first_stays : (q n k : ℕ) (b : Bool) → k < n → (cond (eqb q n) (n + cond b 0 1) q == k) ≡ (q == k)
  first_stays q n k b lt = elim (cases_Bool (eqb q n)) [
    | inl end ↦
        let at : q ≡ n = eqb-true q n end in
        ap (λ t. cond t (n + cond b 0 1) q == k) end
        ∙ eqb_no (n + cond b 0 1) k (λ e. omega (arith, e)) ∙ sym (eqb_no q k (λ e. omega (arith, e, at)))
    | inr low ↦ ap (λ t. cond t (n + cond b 0 1) q == k) low
  ]

  first_left : (k : ℕ) → k < length xs → is_first same d longer k ≡ is_first same d xs k
  first_left k lt =
      let p : X → X → Bool = λ y z. same z y in
      ap (λ y. position_or_len (p y) longer == k) (element_left k lt)
      ∙ ap (λ n. n == k) (position_or_len_push (p (element same d xs k)) xs x)
      ∙ first_stays (position_or_len (p (element same d xs k)) xs) (length xs) k (p (element same d xs k) x) lt

  abbrev known : Bool
  known = list_any (λ y. same y x) xs

  -- and the new one if none is the same
  last_step : (q n : ℕ) (b : Bool) → b ≡ true → q ≤ n → (cond (eqb q n) (n + cond b 0 1) q == n) ≡ eqb q n
  last_step q n b is le = elim (cases_Bool (eqb q n)) [
    | inl end ↦
        ap (λ t. cond t (n + cond b 0 1) q == n) end ∙ ap (λ t. n + cond t 0 1 == n) is
        ∙ eq-eqb (n + 0) n (omega arith) ∙ sym end
    | inr low ↦ ap (λ t. cond t (n + cond b 0 1) q == n) low
  ]

  first_last : is_first same d longer (length xs) ≡ not known
  first_last =
      let p : X → X → Bool = λ y z. same z y in
      let q = position_or_len (p x) xs in
      ap (λ y. position_or_len (p y) longer == length xs) element_last
      ∙ ap (λ n. n == length xs) (position_or_len_push (p x) xs x)
      ∙ last_step q (length xs) (same x x) itself (prefix_len-le-length (λ y. not (p x y)) xs)
      ∙ sym (twice (eqb q (length xs))) ∙ ap not (sym (any_position (p x) xs))
    where
      twice : (b : Bool) → not (not b) ≡ b
      twice true = refl
      twice false = refl

  below : (n : ℕ) → All (λ k. k < n) (range_with_len 0 n)
  below n = λ i e lt. let at = get_or-range_with_len 0 n i e (omega (arith, length-range_with_len 0 n)) in omega (arith, length-range_with_len 0 n)

  pub distinct_more : distinct same d longer ≡ (if known then distinct same d xs else distinct same d xs ++ x ∷ [])
  unfolding distinct
  distinct_more =
      let n = length xs in
      let own = is_first same d xs in
      let kept = filter own (range_with_len 0 n) in
      let all : All (λ k. element same d longer k ≡ element same d xs k) kept = λ i e lt.
      element_left (get_or kept i e) (All-filter own (λ k. k < n) (range_with_len 0 n) (below n) i e lt) in
      let left : map (element same d longer) kept ≡ map (element same d xs) kept = map_same (element same d longer) (element same d xs) kept all in
      ap (λ m. map (element same d longer) (filter (is_first same d longer) (range_with_len 0 m))) (length-append xs (x ∷ []))
      ∙ ap (λ r. map (element same d longer) (filter (is_first same d longer) r)) (range_more n)
      ∙ ap (map (element same d longer)) (filter-append (is_first same d longer) (range_with_len 0 n) (n ∷ []))
      ∙ ap (λ l. map (element same d longer) (l ++ filter (is_first same d longer) (n ∷ []))) (filter_same (is_first same d longer) own 0 n (λ k low lt. first_left k (omega (arith, lt))))
      ∙ ap (λ b. map (element same d longer) (kept ++ cond b (n ∷ []) [])) first_last
      ∙ last known left
    where
      last : (b : Bool) → map (element same d longer) (filter (is_first same d xs) (range_with_len 0 (length xs))) ≡ distinct same d xs →
          map (element same d longer) (filter (is_first same d xs) (range_with_len 0 (length xs)) ++ cond (not b) (length xs ∷ []) [])
          ≡ (if b then distinct same d xs else distinct same d xs ++ x ∷ [])
      last true left = ap (map (element same d longer)) (append-nil (filter (is_first same d xs) (range_with_len 0 (length xs)))) ∙ left
      last false left =
          map-append (element same d longer) (filter (is_first same d xs) (range_with_len 0 (length xs))) (length xs ∷ [])
          ∙ ap (λ l. l ++ element same d longer (length xs) ∷ []) left ∙ ap (λ y. distinct same d xs ++ y ∷ []) element_last

-- entries numbered, with one more
abbrev words : List Wanted → ℕ
words ws = sum_by (λ (w : Wanted). words_of w.usage) ws

abbrev as_entry : ℕ → Wanted → GotEntry
as_entry word w = record { key = w.key; usage = w.usage; file = w.file; symbol = w.symbol; word = word }

numbered_push : (word : ℕ) (ws : List Wanted) (w : Wanted) → numbered word (ws ++ w ∷ []) ≡ numbered word ws ++ as_entry (word + words ws) w ∷ []
numbered_push word [] w = let e : word ≡ word + 0 = omega arith in ap (λ n. as_entry n w ∷ []) e
numbered_push word (v ∷ ws) w =
    let more : (word + words_of v.usage) + words ws ≡ word + words (v ∷ ws) = omega (arith, sum_by-cons (λ (x : Wanted). words_of x.usage) v ws) in
    ap (λ l. as_entry word v ∷ l) (numbered_push (word + words_of v.usage) ws w)
    ∙ ap (λ n. as_entry word v ∷ (numbered (word + words_of v.usage) ws ++ as_entry n w ∷ [])) more

numbered_words : (word : ℕ) (ws : List Wanted) → word_count (numbered word ws) ≡ words ws
unfolding word_count
numbered_words word [] = refl
numbered_words word (w ∷ ws) =
    let g : GotEntry → ℕ = λ e. words_of e.usage in
    let h : Wanted → ℕ = λ v. words_of v.usage in
    omega (arith, sum_by-cons g (as_entry word w) (numbered (word + words_of w.usage) ws), sum_by-cons h w ws, numbered_words (word + words_of w.usage) ws)

-- what is known of the first uses
abbrev pub asks : (key : ℕ) → GotUse → Wanted → Bool
asks key usage w = eq_keys (w.key, w.usage) (key, usage)

pub record AreAdded (ws : List Wanted) (es : List GotEntry) : Type 0 where
  pub entries_are : es ≡ numbered 0 (distinct same_wanted no_wanted ws)
  pub found : (key : ℕ) (usage : GotUse) → is_some (entry_of es key usage) ≡ list_any (asks key usage) ws

some_or : {X : Type 0} (a b : Option X) → is_some (option_or a b) ≡ (is_some a || is_some b)
some_or None b = refl
some_or (Some x) b = refl

if_some : {X : Type 0} (b : Bool) (x : X) → is_some (cond b (Some x) None) ≡ b
if_some true x = refl
if_some false x = refl

same_asks : (w : Wanted) (key : ℕ) (usage : GotUse) → asks key usage w ≡ true → (key ≡ w.key) × (usage ≡ w.usage)
same_asks w key usage own =
    let is = entry_is key usage (as_entry 0 w) own in
    (sym is.key_is, sym is.use_is)

-- an entry for a use that is there already, and for a new one
with_some : (es : List GotEntry) (w : Wanted) (b : Bool) (key : ℕ) (usage : GotUse) → is_some (entry_of es w.key w.usage) ≡ b →
    is_some (entry_of (if b then es else es ++ as_entry (word_count es) w ∷ []) key usage) ≡ (is_some (entry_of es key usage) || asks key usage w)
unfolding entry_of
with_some es w true key usage some = elim (cases_Bool (asks key usage w)) [
  | inl own ↦
      let is = same_asks w key usage own in
      let here : is_some (find (is_entry key usage) es) ≡ true =
      ap (λ k. is_some (find (is_entry k usage) es)) is.0 ∙ ap (λ u. is_some (find (is_entry w.key u) es)) is.1 ∙ some in
      here ∙ ap (λ b. b || asks key usage w) (sym here)
  | inr other ↦ sym (or-false (is_some (find (is_entry key usage) es))) ∙ ap (λ b. is_some (find (is_entry key usage) es) || b) (sym other)
]
with_some es w false key usage none =
    let p : GotEntry → Bool = is_entry key usage in
    let e : GotEntry = as_entry (word_count es) w in
    ap is_some (find-append p es (e ∷ [])) ∙ some_or (find p es) (find p (e ∷ []))
    ∙ ap (λ b. is_some (find p es) || b) (if_some (p e) e)

pub none_added : AreAdded [] []
unfolding entry_of distinct
none_added = record { entries_are = refl; found = λ key usage. refl }

add_entries : (ws : List Wanted) (w : Wanted) (es : List GotEntry) (b : Bool) → es ≡ numbered 0 (distinct same_wanted no_wanted ws) →
    (if b then es else es ++ as_entry (word_count es) w ∷ [])
    ≡ numbered 0 (if b then distinct same_wanted no_wanted ws else distinct same_wanted no_wanted ws ++ w ∷ [])
add_entries ws w es true is = is
add_entries ws w es false is =
    let firsts = distinct same_wanted no_wanted ws in
    let count : word_count es ≡ 0 + words firsts = ap word_count is ∙ numbered_words 0 firsts ∙ omega arith in
    ap (λ n. es ++ as_entry n w ∷ []) count ∙ ap (λ l. l ++ as_entry (0 + words firsts) w ∷ []) is ∙ sym (numbered_push 0 firsts w)

pub one_added : (ws : List Wanted) (w : Wanted) (es : List GotEntry) → AreAdded ws es → AreAdded (ws ++ w ∷ []) (with_use es w.key w.usage w.file w.symbol)
unfolding with_use
one_added ws w es is =
    let b = is_some (entry_of es w.key w.usage) in
    let known_is : b ≡ list_any (λ y. same_wanted y w) ws = is.found w.key w.usage in
    record {
      entries_are =
          add_entries ws w es b is.entries_are
          ∙ ap (λ t. numbered 0 (if t then distinct same_wanted no_wanted ws else distinct same_wanted no_wanted ws ++ w ∷ [])) known_is
          ∙ ap (numbered 0) (sym (distinct_more same_wanted no_wanted ws w (own_entry (as_entry 0 w))));
      found = λ key usage.
          with_some es w b key usage refl
          ∙ ap (λ t. t || asks key usage w) (is.found key usage)
          ∙ ap (λ t. list_any (asks key usage) ws || t) (sym (or-false (asks key usage w)))
          ∙ sym (list_any-append (asks key usage) ws (w ∷ []));
    }

-- all of a list, one after the other
added_from : (done ws : List Wanted) (es : List GotEntry) → AreAdded done es → AreAdded (done ++ ws) (all_added es ws)
added_from done [] es is = subst (λ l. AreAdded l es) (sym (append-nil done)) is
added_from done (w ∷ ws) es is =
    subst (λ l. AreAdded l (all_added (with_use es w.key w.usage w.file w.symbol) ws)) (append_assoc done (w ∷ []) ws)
    (added_from (done ++ w ∷ []) ws (with_use es w.key w.usage w.file w.symbol) (one_added done w es is))

pub all_are_added : (ws : List Wanted) → AreAdded ws (all_added [] ws)
all_are_added ws = added_from [] ws [] none_added
