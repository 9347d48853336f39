-- Which items' contents another has, and what is known of the others.
use Rattle.std.proofs.Common.{◌≡◌, ◌≢◌, ℕ, ◌+◌, ◌<◌, ◌==◌, ◌||◌, All, Bool, true, false, true≢false, cond, not, List, length, map, get_or, set, refl, sym, ap, ◌∙◌, inl, inr, arith}
use Rattle.std.specs.List.{filter, range_with_len}
use Rattle.std.specs.List.Sorted.{IsStrictlyIncreasing}
use Rattle.std.proofs.lemmas.Bool.{cases_Bool, cases_lt, eqb-false, eqb-true, ne_eqb}
use Rattle.std.proofs.lemmas.Grind.{get_or-set_at}
use Rattle.std.proofs.lemmas.List.{get_or-map, get_or-set_other, length-map, length-set}
use Rattle.std.proofs.lemmas.List.FromFn.{get_or-range_with_len, length-range_with_len}
use Rattle.std.proofs.lemmas.List.Kept.{AllPairs-from_increasing}
use Rattle.link_sections.specs.FoldItems.{FoldItem}
use Rattle.name_numbers.specs.Texts.{text_numbers}
use Rattle.icf_part.specs.Chosen.{AreChosen, AreContents, AreMarked, AreShared, AreSpread, is_shared, items_at}
use Rattle.icf_part.specs.Folding.{item_at}
use Rattle.icf_part.specs.Signatures.{bytes_of}
use Rattle.icf_part.proofs.ChosenItems.{chosen_at, items_wide}
use Rattle.icf_part.proofs.Refined.{one_number, one_text}
use Rattle.icf_part.proofs.Whole.{all_numbers}

-- marks
mark_stays : (b : Bool) (xs : List Bool) (i j : ℕ) → i < length xs → get_or xs j false ≡ true → get_or (cond b (set xs i true) xs) j false ≡ true
mark_stays false xs i j lt is = is
mark_stays true xs i j lt is = elim (cases_lt i j) [
  | inl less ↦ get_or-set_other xs i j true false (λ e. omega (arith, less, e)) ∙ is
  | inr le ↦ elim (cases_lt j i) [
    | inl less ↦ get_or-set_other xs i j true false (λ e. omega (arith, less, e)) ∙ is
    | inr also ↦ get_or-set_at xs i j true false (omega (arith, le, also)) lt
  ]
]

mark_set : (b : Bool) (xs : List Bool) (i : ℕ) → b ≡ true → i < length xs → get_or (cond b (set xs i true) xs) i false ≡ true
mark_set true xs i is lt = get_or-set_at xs i i true false refl lt
mark_set false xs i is lt = absurd (true≢false (sym is))

mark_wide : (b : Bool) (xs : List Bool) (i : ℕ) → length (cond b (set xs i true) xs) ≡ length xs
mark_wide true xs i = length-set xs i true
mark_wide false xs i = refl

not_same : (m n : ℕ) → m ≢ n → not (m == n) ≡ true
not_same m n other = ap not (ne_eqb m n other)

pub marked_next : (bytes : List ℕ) (a : ℕ) (old new : List Bool) → get_or bytes a 0 < length bytes → AreMarked bytes a old →
    new ≡ cond (not (get_or bytes a 0 == a)) (set old (get_or bytes a 0) true) old → AreMarked bytes (a + 1) new
marked_next bytes a old new within are is =
    let at = get_or bytes a 0 in
    let b = not (at == a) in
    let lt : at < length old = omega (arith, within, are.wide) in
    record {
      wide = ap length is ∙ mark_wide b old at ∙ are.wide;
      all = λ k lk other. ap (λ l. get_or l (get_or bytes k 0) false) is ∙ elim (cases_lt k a) [
        | inl less ↦ mark_stays b old at (get_or bytes k 0) lt (are.all k less other)
        | inr le ↦
            let same : k ≡ a = omega (arith, lk, le) in
            ap (λ j. get_or (cond b (set old at true) old) (get_or bytes j 0) false) same
            ∙ mark_set b old at (not_same at a (λ e. other (ap (λ j. get_or bytes j 0) same ∙ e ∙ sym same))) lt
      ];
    }

-- the list
neither : (x y : Bool) → (not x || y) ≡ false → (x ≡ true) × (y ≡ false)
neither true y e = (refl, e)
neither false y e = absurd (true≢false e)

pub shared_are : (bytes list : List ℕ) (shared : List Bool) → AreMarked bytes (length bytes) shared → list ≡ filter (is_shared bytes shared) (range_with_len 0 (length bytes)) → AreShared bytes list
unfolding is_shared
shared_are bytes list shared marked is = record {
  test = is_shared bytes shared;
  list_is = is;
  alone = λ a b la lb fails e.
      let parts = neither (get_or bytes a 0 == a) (get_or shared a false) fails in
      let own = eqb-true (get_or bytes a 0) a parts.0 in
      elim (cases_Bool (get_or bytes b 0 == b)) [
        | inl also ↦ sym (eqb-true (get_or bytes b 0) b also) ∙ e ∙ own
        | inr other ↦
            absurd (true≢false (sym (marked.all b lb (eqb-false (get_or bytes b 0) b other)) ∙ ap (λ j. get_or shared j false) (e ∙ own) ∙ parts.1))
      ];
}

pub chosen_from : (items : List FoldItem) (bytes chosen : List ℕ) → bytes ≡ text_numbers (map bytes_of items) → AreShared bytes chosen → AreChosen items chosen
chosen_from items bytes chosen is are =
    let wide = all_numbers bytes_of items bytes is in
    record {
      test = are.test;
      list_is = are.list_is ∙ ap (λ n. filter are.test (range_with_len 0 n)) wide;
      alone = λ a b la lb fails e. are.alone a b (omega (arith, la, wide)) (omega (arith, lb, wide)) fails
          (ap (λ l. get_or l b 0) is ∙ one_number bytes_of items b a lb la e ∙ sym (ap (λ l. get_or l a 0) is));
    }

-- the numbers of their contents
pub contents_from : (items : List FoldItem) (bytes chosen numbers : List ℕ) → bytes ≡ text_numbers (map bytes_of items) → All (λ a. a < length items) chosen →
    numbers ≡ map (λ a. get_or bytes a 0) chosen → AreContents (items_at items chosen) numbers
contents_from items bytes chosen numbers is inside picked =
    let some = items_at items chosen in
    let wide = items_wide items chosen in
    let at : ℕ → ℕ = λ k. get_or chosen k 0 in
    let number : (k : ℕ) → k < length chosen → get_or numbers k 0 ≡ get_or (text_numbers (map bytes_of items)) (at k) 0 = λ k lt.
    ap (λ l. get_or l k 0) picked ∙ get_or-map (λ a. get_or bytes a 0) chosen k 0 0 lt ∙ ap (λ l. get_or l (at k) 0) is in
    let text : (k : ℕ) → k < length chosen → (item_at some k).bytes ≡ (item_at items (at k)).bytes = λ k lt. ap bytes_of (chosen_at items chosen k lt) in
    record {
      wide = ap length picked ∙ length-map chosen (λ a. get_or bytes a 0) ∙ sym wide;
      tells = λ a b la lb e.
          let one : a < length chosen = omega (arith, la, wide) in
          let two : b < length chosen = omega (arith, lb, wide) in
          text a one ∙ one_text bytes_of items (at a) (at b) (inside a 0 one) (inside b 0 two) (sym (number a one) ∙ e ∙ number b two) ∙ sym (text b two);
      same = λ a b la lb e.
          let one : a < length chosen = omega (arith, la, wide) in
          let two : b < length chosen = omega (arith, lb, wide) in
          number a one ∙ one_number bytes_of items (at a) (at b) (inside a 0 one) (inside b 0 two) (sym (text a one) ∙ e ∙ text b two) ∙ sym (number b two);
    }

-- leaders put back
pub spread_first : (n : ℕ) (chosen leaders list : List ℕ) → list ≡ range_with_len 0 n → AreSpread n chosen 0 leaders list
spread_first n chosen leaders list is = record {
  wide = ap length is ∙ length-range_with_len 0 n;
  each = λ i lt. absurd (omega (arith, lt));
  others = λ a lt other. omega (arith, ap (λ l. get_or l a 0) is, get_or-range_with_len 0 n a 0 lt);
}

pub spread_next : (n : ℕ) (chosen : List ℕ) (k : ℕ) (leaders old new : List ℕ) → IsStrictlyIncreasing chosen → k < length chosen → get_or chosen k 0 < n → AreSpread n chosen k leaders old →
    new ≡ set old (get_or chosen k 0) (get_or chosen (get_or leaders k 0) 0) → AreSpread n chosen (k + 1) leaders new
spread_next n chosen k leaders old new order lk within are is =
    let at = get_or chosen k 0 in
    let x = get_or chosen (get_or leaders k 0) 0 in
    let inside : at < length old = omega (arith, within, are.wide) in
    record {
      wide = ap length is ∙ length-set old at x ∙ are.wide;
      each = λ i lt. ap (λ l. get_or l (get_or chosen i 0) 0) is ∙ elim (cases_lt i k) [
        | inl less ↦
            get_or-set_other old at (get_or chosen i 0) x 0 (λ e. omega (arith, AllPairs-from_increasing chosen order i k 0 less lk, e)) ∙ are.each i less
        | inr le ↦
            let same : i ≡ k = omega (arith, lt, le) in
            get_or-set_at old at (get_or chosen i 0) x 0 (ap (λ j. get_or chosen j 0) same) inside ∙ ap (λ j. get_or chosen (get_or leaders j 0) 0) (sym same)
      ];
      others = λ a la other. ap (λ l. get_or l a 0) is ∙ get_or-set_other old at a x 0 (λ e. other k (omega arith) (sym e)) ∙ are.others a la (λ i lt. other i (omega (arith, lt)));
    }
