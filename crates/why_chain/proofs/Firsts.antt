-- The first list in order that passes a test.
use Rattle.std.proofs.Common.{◌≡◌, ◌⊎◌, ℕ, zero, suc, ◌+◌, ◌<◌, ◌≤◌, Bool, true, false, cond, Option, Some, None, List, [], ◌∷◌, length, map, flat_map, find, get_or, option_map, All, Contains, refl, sym, ap, ◌∙◌, inl, inr, arith}
use Rattle.std.specs.List.{range_with_len}
use Rattle.std.specs.Option.{option_or}
use Rattle.std.proofs.lemmas.Bool.{cases_lt, false_from_ne_true}
use Rattle.std.proofs.lemmas.List.Elements.{All-head, All-tail, Contains-get_or}
use Rattle.std.proofs.lemmas.List.Folds.{find-append}
use Rattle.lk_base.proofs.Membership.{from_flat, from_map, head_or_tail}
use Rattle.lk_tables.proofs.Finding.{find_nothing}
use Rattle.why_chain.specs.ShortLists.{ComesBefore, NotAfter, lists_of, short_lists}
use Rattle.why_chain.proofs.Orders.{comes_or_same}

-- the first of lists that stand one after the other, by number
pub find_range : {X : Type 0} (p : X → Bool) (g : ℕ → List X) (from len k : ℕ) (x : X) → from ≤ k → k < from + len →
    ((j : ℕ) → from ≤ j → j < k → find p (g j) ≡ None) → find p (g k) ≡ Some x → find p (flat_map g (range_with_len from len)) ≡ Some x
find_range p g from zero k x low less before at = absurd (omega arith)
find_range p g from (suc len) k x low less before at =
    let rest = flat_map g (range_with_len (from + 1) len) in
    find-append p (g from) rest ∙ elim (cases_lt from k) [
      | inl under ↦ ap (λ o. option_or o (find p rest)) (before from (omega arith) under)
          ∙ find_range p g (from + 1) len k x (omega arith) (omega arith) (λ j l m. before j (omega arith) m) at
      | inr over ↦ let same : from ≡ k = omega arith in ap (λ o. option_or o (find p rest)) (ap (λ j. find p (g j)) same ∙ at)
    ]

-- the first of a map
by_test : {X Y : Type 0} (f : X → Y) (b : Bool) (x : X) (o : Option Y) (q : Option X) → o ≡ option_map f q → cond b (Some (f x)) o ≡ option_map f (cond b (Some x) q)
by_test f true x o q e = refl
by_test f false x o q e = e

pub find_mapped : {X Y : Type 0} (p : Y → Bool) (f : X → Y) (xs : List X) → find p (map f xs) ≡ option_map f (find (λ x. p (f x)) xs)
find_mapped p f [] = refl
find_mapped p f (x ∷ xs) = by_test f (p (f x)) x (find p (map f xs)) (find (λ y. p (f y)) xs) (find_mapped p f xs)

-- what no element passes
pub find_none : {X : Type 0} (p : X → Bool) (xs : List X) → ((x : X) → p x ≡ false) → find p xs ≡ None
find_none p [] fails = refl
find_none p (x ∷ xs) fails = ap (λ b. cond b (Some x) (find p xs)) (fails x) ∙ find_none p xs fails

-- lists of n numbers have n numbers
pub lists_wide : (bound n : ℕ) (xs : List ℕ) → Contains (lists_of bound n) xs → length xs ≡ n
lists_wide bound zero xs has = elim (head_or_tail [] xs [] has) [
  | inl here ↦ ap length (sym here)
  | inr later ↦ absurd (omega (arith, later.1))
]
lists_wide bound (suc n) xs has =
    let part = from_flat (λ first. map (λ rest. first ∷ rest) (lists_of bound n)) (range_with_len 0 bound) xs has in
    let rest = from_map (λ (list : List ℕ). part.x ∷ list) (lists_of bound n) xs part.part in
    ap length (sym rest.is) ∙ ap suc (lists_wide bound n rest.x rest.listed)

list_wide : (bound n i : ℕ) → i < length (lists_of bound n) → length (get_or (lists_of bound n) i []) ≡ n
list_wide bound n i less = lists_wide bound n (get_or (lists_of bound n) i []) (Contains-get_or (lists_of bound n) i [] less)

-- of those of one length
head_same : (j k : ℕ) (u v : List ℕ) → j ∷ u ≡ k ∷ v → j ≡ k
head_same j k u v e = ap (λ (l : List ℕ). get_or l 0 0) e

tail_of : List ℕ → List ℕ
tail_of [] = []
tail_of (x ∷ xs) = xs

tail_same : (j k : ℕ) (u v : List ℕ) → j ∷ u ≡ k ∷ v → u ≡ v
unfolding tail_of
tail_same j k u v e = ap tail_of e

earlier_fails : (P : List ℕ → Bool) (k : ℕ) (ks : List ℕ)
    → ((other : List ℕ) → P other ≡ true → length other ≡ length (k ∷ ks) → (other ≡ k ∷ ks) ⊎ ComesBefore (k ∷ ks) other)
    → (j : ℕ) → j < k → (rest : List ℕ) → length rest ≡ length ks → P (j ∷ rest) ≡ false
earlier_fails P k ks least j less rest wide = false_from_ne_true (P (j ∷ rest)) (λ e. elim (least (j ∷ rest) e (ap suc wide)) [
  | inl same ↦ omega (arith, head_same j k rest ks same)
  | inr (inl more) ↦ omega arith
  | inr (inr p) ↦ omega (arith, p.0)
])

rest_least : (P : List ℕ → Bool) (k : ℕ) (ks : List ℕ)
    → ((other : List ℕ) → P other ≡ true → length other ≡ length (k ∷ ks) → (other ≡ k ∷ ks) ⊎ ComesBefore (k ∷ ks) other)
    → (other : List ℕ) → P (k ∷ other) ≡ true → length other ≡ length ks → (other ≡ ks) ⊎ ComesBefore ks other
rest_least P k ks least other e wide = elim (least (k ∷ other) e (ap suc wide)) [
  | inl same ↦ inl (tail_same k k other ks same)
  | inr (inl more) ↦ absurd (omega arith)
  | inr (inr p) ↦ inr p.1
]

first_list : (P : List ℕ → Bool) (bound : ℕ) (list : List ℕ) → All (λ k. k < bound) list → P list ≡ true
    → ((other : List ℕ) → P other ≡ true → length other ≡ length list → (other ≡ list) ⊎ ComesBefore list other)
    → find P (lists_of bound (length list)) ≡ Some list
first_list P bound [] within passes least = ap (λ b. cond b (Some []) None) passes
first_list P bound (k ∷ ks) within passes least =
    let lists = lists_of bound (length ks) in
    let g : ℕ → List (List ℕ) = λ first. map (λ rest. first ∷ rest) lists in
    let low : k < bound = All-head (λ j. j < bound) k ks within in
    find_range P g 0 bound k (k ∷ ks) (omega arith) (omega arith)
    (λ j from less. find_mapped P (λ (rest : List ℕ). j ∷ rest) lists
    ∙ ap (option_map (λ (rest : List ℕ). j ∷ rest)) (find_nothing (λ (rest : List ℕ). P (j ∷ rest)) lists []
    (λ i under. earlier_fails P k ks least j less (get_or lists i []) (list_wide bound (length ks) i under))))
    (find_mapped P (λ (rest : List ℕ). k ∷ rest) lists
    ∙ ap (option_map (λ (rest : List ℕ). k ∷ rest))
    (first_list (λ rest. P (k ∷ rest)) bound ks (All-tail (λ j. j < bound) k ks within) passes (rest_least P k ks least)))

-- of all short ones
no_shorter : (list other : List ℕ) → NotAfter list other → length other < length list → ⊥
no_shorter list other (inl same) less = omega (arith, ap length same)
no_shorter list other (inr (inl more)) less = omega arith
no_shorter list other (inr (inr p)) less = omega (arith, p.0)

pub first_short : (P : List ℕ → Bool) (bound count : ℕ) (list : List ℕ) → All (λ k. k < bound) list → length list < count → P list ≡ true
    → ((other : List ℕ) → P other ≡ true → NotAfter list other) → find P (short_lists bound count) ≡ Some list
unfolding short_lists
first_short P bound count list within short passes least =
    find_range P (lists_of bound) 0 count (length list) list (omega arith) (omega arith)
    (λ j from less. find_nothing P (lists_of bound j) [] (λ i under.
    let other = get_or (lists_of bound j) i [] in
    let wide : length other ≡ j = list_wide bound j i under in
    false_from_ne_true (P other) (λ e. no_shorter list other (least other e) (omega arith))))
    (first_list P bound list within passes (λ other e wide. comes_or_same list other (least other e) wide))
