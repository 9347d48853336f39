-- The distinct elements of a list, from the index of the first equal one of each.
use Rattle.std.proofs.Common.{◌≡◌, ℕ, ◌+◌, ◌-◌, ◌<◌, ◌≤◌, ◌^◌, ◌==◌, Bool, true, false, cond, not, List, [], ◌∷◌, ◌++◌, length, map, get_or, refl, sym, ap, ◌∙◌, subst, arith, inl, inr}
use Rattle.std.specs.Prelude.{All}
use Rattle.std.specs.List.{filter, range_with_len, position_or_len}
use Rattle.std.proofs.Math.Seq.{drop-append_seam, get_or-append_seam}
use Rattle.std.proofs.lemmas.Bool.{cases_lt, eq-eqb, false≢true}
use Rattle.std.proofs.lemmas.List.{length-map, length-append, get_or-map, get_or_append_left, map-append}
use Rattle.std.proofs.lemmas.List.Elements.{filter-append, All-drop, All-filter}
use Rattle.std.proofs.lemmas.List.FromFn.{fill_by_all}
use Rattle.std.proofs.lemmas.List.Sums.{fails_before_first, passes_at_first, position_or_len_is}
use Rattle.lk_base.proofs.Loops.{range_at}
use Rattle.lk_base.proofs.Ranges.{each_below, filter_same, range_parts}
use Rattle.link_sections.specs.Distinct.{distinct, element, first_same, is_first}
use Rattle.str_merge.specs.Orders.{IsFirstOf, firsts, is_own, owns, rank, ranks}

-- equal elements are alike to all others
pub record IsSame {X : Type 0} (same : X → X → Bool) : Type 0 where
  pub itself : (x : X) → same x x ≡ true
  pub alike : (x y : X) → same x y ≡ true → (z : X) → same z x ≡ same z y

pub first_alike : {X : Type 0} (p q : X → Bool) (xs : List X) → ((x : X) → p x ≡ q x) → position_or_len p xs ≡ position_or_len q xs
first_alike p q [] each = refl
first_alike p q (x ∷ xs) each =
    ap (λ b. cond (not b) (1 + position_or_len p xs) 0) (each x) ∙ ap (λ n. cond (not (q x)) (1 + n) 0) (first_alike p q xs each)

pub range_split : (j n : ℕ) → j < n → range_with_len 0 n ≡ range_with_len 0 j ++ (j ∷ range_with_len (j + 1) (n - (j + 1)))
range_split j n lt =
    let e : n ≡ j + (n - j) = omega arith in
    let z : 0 + j ≡ j = omega arith in
    ap (range_with_len 0) e ∙ range_parts 0 j (n - j) ∙ ap (λ k. range_with_len 0 j ++ range_with_len k (n - j)) z
    ∙ ap (λ l. range_with_len 0 j ++ l) (range_at j n lt)

-- the first that passes stands after those that fail
position_after : {X : Type 0} (p : X → Bool) (xs : List X) (y : X) (ys : List X) → ((k : ℕ) → k < length xs → p (get_or xs k y) ≡ false) → p y ≡ true →
    position_or_len p (xs ++ y ∷ ys) ≡ length xs
position_after {X} p xs y ys fails passes =
    position_or_len_is p (xs ++ y ∷ ys) (length xs) y (omega (arith, length-append xs (y ∷ ys)))
    (λ k lt. ap p (get_or_append_left xs (y ∷ ys) y k lt) ∙ fails k lt)
    (λ lt. ap p (get_or-append_seam xs y ys y) ∙ passes)

-- first elements are among all
pub owns_below : (ns : List ℕ) (n : ℕ) → All (λ i. i < n) (owns ns n)
unfolding owns
owns_below ns n = All-filter (is_own ns) (λ i. i < n) (range_with_len 0 n) (each_below n)

pub firsts_below : (ns : List ℕ) → All (λ i. i < length ns) (firsts ns)
unfolding firsts
firsts_below ns = owns_below ns (length ns)

-- those that are found after others
pub own_within : (ns own : List ℕ) (start end most : ℕ) → owns ns start ++ own ≡ owns ns end → end ≤ most → All (λ i. i < most) own
own_within ns own start end most both le =
    let P : ℕ → Type 0 = λ i. i < end in
    let whole : All P (owns ns start ++ own) = subst (All P) (sym both) (owns_below ns end) in
    let later : All P own = subst (All P) (drop-append_seam (owns ns start) own) (All-drop P (length (owns ns start)) (owns ns start ++ own) whole) in
    λ i d lt. let low = later i d lt in omega (arith, low, le)

module _ {X : Type 0} (same : X → X → Bool) (d : X) (xs : List X) (is : IsSame same) where
  abbrev pub numbers : List ℕ
  numbers = map (first_same same d xs) xs

  pub number_at : (i : ℕ) → i < length xs → get_or numbers i 0 ≡ first_same same d xs (element same d xs i)
  number_at i lt = get_or-map (first_same same d xs) xs i d 0 lt

  first_before : (i : ℕ) → i < length xs → first_same same d xs (element same d xs i) ≤ i
  first_before i lt = elim (cases_lt i (first_same same d xs (element same d xs i))) [
    | inl after ↦
        let no = fails_before_first (λ y. same y (element same d xs i)) xs i d after in
        absurd (false≢true (sym no ∙ is.itself (element same d xs i)))
    | inr le ↦ le
  ]

  first_is : (i : ℕ) → i < length xs → same (element same d xs (first_same same d xs (element same d xs i))) (element same d xs i) ≡ true
  first_is i lt = passes_at_first (λ y. same y (element same d xs i)) xs d (omega (arith, first_before i lt))

  first_own : (i : ℕ) → i < length xs → first_same same d xs (element same d xs (first_same same d xs (element same d xs i))) ≡ first_same same d xs (element same d xs i)
  first_own i lt =
      let x = element same d xs (first_same same d xs (element same d xs i)) in
      let y = element same d xs i in
      first_alike (λ z. same z x) (λ z. same z y) xs (λ z. is.alike x y (first_is i lt) z)

  pub numbers_first : length xs < 2 ^ 31 → IsFirstOf numbers
  numbers_first few = record {
    few = omega (arith, length-map xs (first_same same d xs));
    before = λ i lt.
        let less : i < length xs = omega (arith, length-map xs (first_same same d xs)) in
        omega (arith, number_at i less, first_before i less);
    own = λ i lt.
        let less : i < length xs = omega (arith, length-map xs (first_same same d xs)) in
        let low = first_before i less in
        ap (λ n. get_or numbers n 0) (number_at i less)
        ∙ number_at (first_same same d xs (element same d xs i)) (omega arith)
        ∙ first_own i less ∙ sym (number_at i less);
  }

  owns_are : (n : ℕ) → n ≤ length xs → owns numbers n ≡ filter (is_first same d xs) (range_with_len 0 n)
  unfolding owns
  owns_are n le =
      filter_same (is_own numbers) (is_first same d xs) 0 n (λ k low lt. ap (λ m. m == k) (number_at k (omega arith)))

  -- those with which no earlier one is the same
  pub distinct_is : distinct same d xs ≡ map (element same d xs) (firsts numbers)
  unfolding distinct firsts
  distinct_is =
      let count : length numbers ≡ length xs = length-map xs (first_same same d xs) in
      ap (map (element same d xs)) (sym (owns_are (length xs) (omega arith)) ∙ ap (owns numbers) (sym count))

  pub firsts_within : All (λ i. i < length xs) (firsts numbers)
  firsts_within =
      let P : ℕ → Type 0 = λ n. All (λ i. i < n) (firsts numbers) in
      subst P (length-map xs (first_same same d xs)) (firsts_below numbers)

  first_passes : (i : ℕ) → i < length xs → is_first same d xs (first_same same d xs (element same d xs i)) ≡ true
  first_passes i lt =
      let j = first_same same d xs (element same d xs i) in
      ap (λ n. n == j) (first_own i lt) ∙ eq-eqb j j refl

  -- what stands before the first equal one of an element
  split_at : (i : ℕ) → i < length xs →
      filter (is_first same d xs) (range_with_len 0 (length xs))
      ≡ filter (is_first same d xs) (range_with_len 0 (first_same same d xs (element same d xs i)))
      ++ (first_same same d xs (element same d xs i) ∷ filter (is_first same d xs) (range_with_len (first_same same d xs (element same d xs i) + 1) (length xs - (first_same same d xs (element same d xs i) + 1))))
  split_at i lt =
      let own = is_first same d xs in
      let j = first_same same d xs (element same d xs i) in
      let low = first_before i lt in
      let rest = filter own (range_with_len (j + 1) (length xs - (j + 1))) in
      ap (filter own) (range_split j (length xs) (omega arith))
      ∙ filter-append own (range_with_len 0 j) (j ∷ range_with_len (j + 1) (length xs - (j + 1)))
      ∙ ap (λ b. filter own (range_with_len 0 j) ++ cond b (j ∷ rest) rest) (first_passes i lt)

  -- the place of an element among them
  pub rank_is : (i : ℕ) → i < length xs → position_or_len (λ y. same y (element same d xs i)) (distinct same d xs) ≡ rank numbers i
  unfolding distinct rank
  rank_is i lt =
      let at = element same d xs in
      let y = at i in
      let own = is_first same d xs in
      let j = first_same same d xs y in
      let low = first_before i lt in
      let rest = filter own (range_with_len (j + 1) (length xs - (j + 1))) in
      let before = filter own (range_with_len 0 j) in
      let low_all : All (λ k. k < j) before = All-filter own (λ k. k < j) (range_with_len 0 j) (each_below j) in
      ap (λ l. position_or_len (λ z. same z y) (map at l)) (split_at i lt)
      ∙ ap (position_or_len (λ z. same z y)) (map-append at before (j ∷ rest))
      ∙ position_after (λ z. same z y) (map at before) (at j) (map at rest)
      (λ k less.
      let within : k < length before = omega (arith, length-map before at) in
      ap (λ z. same z y) (get_or-map at before k 0 (at j) within)
      ∙ fails_before_first (λ z. same z y) xs (get_or before k 0) d (low_all k 0 within))
      (first_is i lt)
      ∙ length-map before at
      ∙ ap length (sym (owns_are j (omega arith)))
      ∙ ap (λ n. length (owns numbers n)) (sym (number_at i lt))

  pub rank_within : (i : ℕ) → i < length xs → rank numbers i < length (firsts numbers)
  unfolding rank firsts
  rank_within i lt =
      let own = is_first same d xs in
      let j = first_same same d xs (element same d xs i) in
      let low = first_before i lt in
      let rest = filter own (range_with_len (j + 1) (length xs - (j + 1))) in
      let before = filter own (range_with_len 0 j) in
      let count : length numbers ≡ length xs = length-map xs (first_same same d xs) in
      let here : length (owns numbers (get_or numbers i 0)) ≡ length before = ap (λ n. length (owns numbers n)) (number_at i lt) ∙ ap length (owns_are j (omega arith)) in
      let all : length (owns numbers (length numbers)) ≡ length (before ++ (j ∷ rest)) =
      ap (λ n. length (owns numbers n)) count ∙ ap length (owns_are (length xs) (omega arith)) ∙ ap length (split_at i lt) in
      omega (arith, here, all, length-append before (j ∷ rest))

  -- the places of all
  pub ranks_are : map (λ x. position_or_len (λ y. same y x) (distinct same d xs)) xs ≡ ranks numbers
  unfolding ranks
  ranks_are =
      let n = length xs in
      let count : length numbers ≡ n = length-map xs (first_same same d xs) in
      let place : X → ℕ = λ x. position_or_len (λ y. same y x) (distinct same d xs) in
      fill_by_all (rank numbers) (map place xs) n 0 (length-map xs place) (λ k lt. get_or-map place xs k d 0 lt ∙ rank_is k lt)
      ∙ ap (λ m. map (rank numbers) (range_with_len 0 m)) (sym count)
