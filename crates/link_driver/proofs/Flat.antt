-- Lists one after the other as one list, and where each element stands.
use Rattle.std.proofs.Common.{◌≡◌, ℕ, zero, suc, ◌+◌, ◌-◌, ◌<◌, ◌≤◌, List, [], ◌∷◌, ◌++◌, length, flat_map, take, get_or, refl, ap, ◌∙◌, arith, inl, inr}
use Rattle.std.specs.List.{range_with_len, sum_by}
use Rattle.std.proofs.lemmas.Bool.{cases_lt}
use Rattle.std.proofs.lemmas.List.{length-append}
use Rattle.std.proofs.lemmas.List.Sums.{sum_by-cons}

get_left : {X : Type 0} (xs ys : List X) (p : ℕ) (d : X) → p < length xs → get_or (xs ++ ys) p d ≡ get_or xs p d
get_left [] ys p d lt = absurd (omega (arith, lt))
get_left (x ∷ xs) ys zero d lt = refl
get_left (x ∷ xs) ys (suc p) d lt = get_left xs ys p d (omega (arith, lt))

get_right : {X : Type 0} (xs ys : List X) (n k : ℕ) (d : X) → n ≡ length xs + k → get_or (xs ++ ys) n d ≡ get_or ys k d
get_right [] ys n k d is = let e : n ≡ k = omega (arith, is) in ap (λ m. get_or ys m d) e
get_right (x ∷ xs) ys zero k d is = absurd (omega (arith, is))
get_right (x ∷ xs) ys (suc n) k d is = get_right xs ys n k d (omega (arith, is))

abbrev pub flat : {X : Type 0} → List (List X) → List X
flat xs = flat_map (λ row. row) xs

-- how many elements stand before a list
abbrev pub before : {X : Type 0} → List (List X) → (row : ℕ) → ℕ
before xs row = length (flat (take row xs))

-- element k is element `place` of a list
pub record IsAt {X : Type 0} (xs : List (List X)) (k : ℕ) : Type 0 where
  pub row : ℕ
  pub row_low : row < length xs
  pub place : ℕ
  pub low : place < length (get_or xs row [])
  pub is : k ≡ before xs row + place

pub find : {X : Type 0} (xs : List (List X)) (k : ℕ) → k < length (flat xs) → IsAt xs k
find [] k lt = absurd (omega (arith, lt))
find (x ∷ xs) k lt = elim (cases_lt k (length x)) [
  | inl here ↦ record { row = 0; row_low = omega arith; place = k; low = here; is = omega arith }
  | inr past ↦
      let long = length-append x (flat xs) in
      let rest = find xs (k - length x) (omega (arith, lt, long, past)) in
      record {
        row = suc rest.row;
        row_low = omega (arith, rest.row_low);
        place = rest.place;
        low = rest.low;
        is = omega (arith, past, rest.is, length-append x (flat (take rest.row xs)));
      }
]

pub flat_at : {X : Type 0} (xs : List (List X)) (row place : ℕ) (d : X) → row < length xs → place < length (get_or xs row []) → get_or (flat xs) (before xs row + place) d ≡ get_or (get_or xs row []) place d
flat_at [] row place d row_low low = absurd (omega (arith, row_low))
flat_at (x ∷ xs) zero place d row_low low =
    let e : 0 + place ≡ place = omega arith in
    ap (λ n. get_or (x ++ flat xs) n d) e ∙ get_left x (flat xs) place d low
flat_at (x ∷ xs) (suc row) place d row_low low =
    get_right x (flat xs) (before (x ∷ xs) (suc row) + place) (before xs row + place) d (omega (arith, length-append x (flat (take row xs))))
    ∙ flat_at xs row place d (omega (arith, row_low)) low

pub flat_low : {X : Type 0} (xs : List (List X)) (row place : ℕ) → row < length xs → place < length (get_or xs row []) → before xs row + place < length (flat xs)
flat_low [] row place row_low low = absurd (omega (arith, row_low))
flat_low (x ∷ xs) zero place row_low low = omega (arith, low, length-append x (flat xs))
flat_low (x ∷ xs) (suc row) place row_low low =
    let rest = flat_low xs row place (omega (arith, row_low)) low in
    omega (arith, rest, length-append x (flat xs), length-append x (flat (take row xs)))

-- a list by two of its places
record IsSplit {X : Type 0} (xs : List X) (q : ℕ) (d : X) : Type 0 where
  pre : List X
  post : List X
  is : xs ≡ pre ++ (get_or xs q d ∷ post)
  long : length pre ≡ q
  at : (k : ℕ) → k < length pre → get_or pre k d ≡ get_or xs k d

split_one : {X : Type 0} (xs : List X) (q : ℕ) (d : X) → q < length xs → IsSplit xs q d
split_one [] q d lt = absurd (omega (arith, lt))
split_one (x ∷ xs) zero d lt = record { pre = []; post = xs; is = refl; long = refl; at = λ k less. absurd (omega (arith, less)) }
split_one (x ∷ xs) (suc q) d lt =
    let rest = split_one xs q d (omega (arith, lt)) in
    record { pre = x ∷ rest.pre; post = rest.post; is = ap (λ l. x ∷ l) rest.is; long = omega (arith, rest.long); at = λ k less. by rest k less }
  where
    by : (rest : IsSplit xs q d) (k : ℕ) → k < length (x ∷ rest.pre) → get_or (x ∷ rest.pre) k d ≡ get_or (x ∷ xs) k d
    by rest zero less = refl
    by rest (suc k) less = rest.at k (omega (arith, less))

pub record AreSplit {X : Type 0} (xs : List X) (p q : ℕ) (d : X) : Type 0 where
  pub pre : List X
  pub mid : List X
  pub post : List X
  pub is : xs ≡ pre ++ (get_or xs p d ∷ (mid ++ (get_or xs q d ∷ post)))
  pub long : p + 1 + length mid ≡ q
  pub at : (k : ℕ) → k < length mid → get_or mid k d ≡ get_or xs (p + 1 + k) d

pub split_two : {X : Type 0} (xs : List X) (p q : ℕ) (d : X) → p < q → q < length xs → AreSplit xs p q d
split_two [] p q d less lt = absurd (omega (arith, lt))
split_two (x ∷ xs) p zero d less lt = absurd (omega (arith, less))
split_two (x ∷ xs) zero (suc q) d less lt =
    let one = split_one xs q d (omega (arith, lt)) in
    record {
      pre = [];
      mid = one.pre;
      post = one.post;
      is = ap (λ l. x ∷ l) one.is;
      long = omega (arith, one.long);
      at = λ k low. let e : suc k ≡ 0 + 1 + k = omega arith in one.at k low ∙ ap (λ n. get_or (x ∷ xs) n d) e;
    }
split_two (x ∷ xs) (suc p) (suc q) d less lt =
    let rest = split_two xs p q d (omega (arith, less)) (omega (arith, lt)) in
    record {
      pre = x ∷ rest.pre;
      mid = rest.mid;
      post = rest.post;
      is = ap (λ l. x ∷ l) rest.is;
      long = omega (arith, rest.long);
      at = λ k low. let e : suc (p + 1 + k) ≡ suc p + 1 + k = omega arith in rest.at k low ∙ ap (λ n. get_or (x ∷ xs) n d) e;
    }

-- a sum over them, by their numbers in a longer list
pub sum_numbered : {X : Type 0} (f : X → ℕ) (g : ℕ → ℕ) (d : X) (xs : List X) (a : ℕ) → ((k : ℕ) → k < length xs → f (get_or xs k d) ≤ g (a + k)) → sum_by f xs ≤ sum_by g (range_with_len a (length xs))
sum_numbered f g d [] a each = omega arith
sum_numbered f g d (x ∷ xs) a each =
    let e : a + 0 ≡ a = omega arith in
    let first = each 0 (omega arith) in
    let rest = sum_numbered f g d xs (a + 1) (λ k lt. let h : (a + 1) + k ≡ a + suc k = omega arith in omega (arith, each (suc k) (omega (arith, lt)), ap g h)) in
    omega (arith, sum_by-cons f x xs, sum_by-cons g a (range_with_len (a + 1) (length xs)), first, ap g e, rest)
