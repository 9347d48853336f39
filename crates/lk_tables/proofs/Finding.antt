-- The first element that passes a test, also by bisection of a list in order.
use Rattle.std.proofs.Common.{◌≡◌, ℕ, zero, suc, ◌<◌, ◌≤◌, ◌==◌, Bool, true, false, cond, List, [], ◌∷◌, length, get_or, refl, sym, ap, ◌∙◌, arith, Some, None, inl, inr}
use Rattle.std.specs.Prelude.{find}
use Rattle.std.specs.List.{All, range_with_len}
use Rattle.std.specs.List.Sorted.{IsNonDecreasingBy}
use Rattle.std.proofs.lemmas.Bool.{ne_eqb, eq-eqb, cases_lt}
use Rattle.std.proofs.lemmas.List.{get_or_past}
use Rattle.std.proofs.lemmas.List.FromFn.{length-range_with_len, get_or-range_with_len}
use Rattle.std.proofs.lemmas.List.Sorted.{IsNonDecreasingBy-short}

pub find_first : {X : Type 0} (p : X → Bool) (xs : List X) (n : ℕ) (d : X) → n < length xs →
    ((k : ℕ) → k < n → p (get_or xs k d) ≡ false) → p (get_or xs n d) ≡ true → find p xs ≡ Some (get_or xs n d)
find_first p [] n d lt fails passes = absurd (omega arith)
find_first p (x ∷ xs) zero d lt fails passes = ap (λ b. cond b (Some x) (find p xs)) passes
find_first p (x ∷ xs) (suc n) d lt fails passes =
    ap (λ b. cond b (Some x) (find p xs)) (fails 0 (omega arith)) ∙ find_first p xs n d (omega arith) (λ k less. fails (suc k) (omega arith)) passes

pub find_nothing : {X : Type 0} (p : X → Bool) (xs : List X) (d : X) → ((k : ℕ) → k < length xs → p (get_or xs k d) ≡ false) → find p xs ≡ None
find_nothing p [] d fails = refl
find_nothing p (x ∷ xs) d fails =
    ap (λ b. cond b (Some x) (find p xs)) (fails 0 (omega arith)) ∙ find_nothing p xs d (λ k less. fails (suc k) (omega arith))

-- the first number below n that passes
pub first_number : (p : ℕ → Bool) (n f : ℕ) → f < n → ((k : ℕ) → k < f → p k ≡ false) → p f ≡ true → find p (range_with_len 0 n) ≡ Some f
first_number p n f lt fails passes =
    let range = range_with_len 0 n in
    let at : (k : ℕ) → k < n → get_or range k 0 ≡ k = λ k less. let is = get_or-range_with_len 0 n k 0 less in omega arith in
    find_first p range f 0 (omega (arith, length-range_with_len 0 n)) (λ k less. ap p (at k (omega arith)) ∙ fails k less) (ap p (at f lt) ∙ passes)
    ∙ ap Some (at f lt)

-- in a list in order of a key: all before place n lie below the key that is looked for, and none from n on
apart : (x key : ℕ) → x < key → (x == key) ≡ false
apart x key lt = ne_eqb x key (λ same. omega (arith, lt, same))

pub found : {X : Type 0} (number : X → ℕ) (xs : List X) (key n : ℕ) (x : X) → n < length xs →
    ((k : ℕ) (d : X) → k < n → number (get_or xs k d) < key) → x ≡ get_or xs n x → number x ≡ key → find (λ y. number y == key) xs ≡ Some x
found number xs key n x lt before is same =
    find_first (λ y. number y == key) xs n x lt (λ k less. apart (number (get_or xs k x)) key (before k x less)) (eq-eqb _ _ (ap number (sym is) ∙ same))
    ∙ ap Some (sym is)

pub missing_past : {X : Type 0} (number : X → ℕ) (xs : List X) (key n : ℕ) (d : X) → length xs ≤ n →
    ((k : ℕ) (d : X) → k < n → number (get_or xs k d) < key) → find (λ y. number y == key) xs ≡ None
missing_past number xs key n d le before =
    find_nothing (λ y. number y == key) xs d (λ k less. apart (number (get_or xs k d)) key (before k d (omega arith)))

pub missing_at : {X : Type 0} (number : X → ℕ) (xs : List X) (key n : ℕ) (x : X) → IsNonDecreasingBy number xs → n < length xs →
    ((k : ℕ) (d : X) → k < n → number (get_or xs k d) < key) → x ≡ get_or xs n x → key ≤ number x → (number x ≡ key → ⊥) → find (λ y. number y == key) xs ≡ None
missing_at number xs key n x ordered lt before is above other =
    let more : key < number x = elim (cases_lt key (number x)) [
      | inl less ↦ less
      | inr most ↦ absurd (other (omega arith))
    ] in
    find_nothing (λ y. number y == key) xs x (λ k less. elim (cases_lt k n) [
      | inl low ↦ apart (number (get_or xs k x)) key (before k x low)
      | inr high ↦
          let up : number (get_or xs n x) ≤ number (get_or xs k x) = ordered n k x high less in
          let own : number x ≡ number (get_or xs n x) = ap number is in
          ne_eqb (number (get_or xs k x)) key (λ same. omega (arith, up, own, more, same))
    ])

-- a list of lists in order, by number
pub ordered_at : {X : Type 0} (key : X → ℕ) (lists : List (List X)) (k : ℕ) → All (IsNonDecreasingBy key) lists → IsNonDecreasingBy key (get_or lists k [])
ordered_at key lists k ordered = elim (cases_lt k (length lists)) [
  | inl lt ↦ ordered k [] lt
  | inr le ↦
      let past : length (get_or lists k []) ≡ 0 = ap length (get_or_past lists k [] le) in
      IsNonDecreasingBy-short key (get_or lists k []) (omega (arith, past))
]

-- no number passes
pub no_number : (p : ℕ → Bool) (n : ℕ) → ((k : ℕ) → k < n → p k ≡ false) → find p (range_with_len 0 n) ≡ None
no_number p n fails =
    find_nothing p (range_with_len 0 n) 0 (λ k less.
    let lt : k < n = omega (arith, less, length-range_with_len 0 n) in
    let is : get_or (range_with_len 0 n) k 0 ≡ k = get_or-range_with_len 0 n k 0 lt ∙ omega arith in
    ap p is ∙ fails k lt)
