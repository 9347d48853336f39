-- Names whose keys are in order are in order.
use Rattle.std.proofs.Common.{◌≡◌, ℕ, zero, suc, ◌+◌, ◌*◌, ◌^◌, ◌<◌, ◌≤◌, All, List, [], ◌∷◌, length, get_or, refl, sym, ap, ◌∙◌, ⊎_elim, arith}
use Rattle.std.specs.declared.cmp.Ordering.{Ordering}
use Rattle.std.specs.declared.cmp.Ordering.TheVariants.{Less, Equal, Greater}
use Rattle.std.specs.Ordering.{nat_cmp, ordering_reverse, ordering_then}
use Rattle.std.specs.Cmp.{nat_cmp_is}
use Rattle.std.specs.Cmp.Lexicographic.{slice_cmp}
use Rattle.std.proofs.Math.Nat.{pow-le-pow_right, pow-suc}
use Rattle.std.proofs.lemmas.Bool.{cases_lt}
use Rattle.std.proofs.lemmas.Cmp.{nat_list_cmp_total}
use Rattle.std.proofs.lemmas.List.{get_or_past}
use Rattle.symbol_table.specs.NameKeys.{key_of, key_to}

abbrev pub AreBytes : List ℕ → Type 0
AreBytes xs = All (λ b. b < 256) xs

pub byte_small : (xs : List ℕ) → AreBytes xs → (k : ℕ) → get_or xs k 0 < 256
byte_small xs bytes k = ⊎_elim
    (λ (lt : k < length xs). bytes k 0 lt)
    (λ (past : length xs ≤ k). omega (arith, get_or_past xs k 0 past))
    (cases_lt k (length xs))

-- one byte more
pub key_first : (xs : List ℕ) → key_to xs 0 ≡ 0
unfolding key_to
key_first xs = refl

pub key_more : (xs : List ℕ) (n : ℕ) → key_to xs (n + 1) ≡ 256 * key_to xs n + get_or xs n 0
unfolding key_to
key_more xs n = let e : n + 1 ≡ suc n = omega arith in ap (key_to xs) e

key_step : (xs : List ℕ) (n : ℕ) → key_to xs (suc n) ≡ 256 * key_to xs n + get_or xs n 0
unfolding key_to
key_step xs n = refl

pub key_all : (xs : List ℕ) (n key : ℕ) → n ≡ 8 → key ≡ key_to xs n → key ≡ key_of xs
unfolding key_of
key_all xs n key all is = is ∙ ap (key_to xs) all

-- there is room for the next byte
pub key_room : (n key : ℕ) → n < 8 → key < 256 ^ n → 256 * key + 255 < 2 ^ 64
key_room n key lt small =
    let some : 0 < 256 = omega arith in
    let le : n ≤ 7 = omega (arith, lt) in
    omega (arith, small, pow-le-pow_right some le)

pub next_small : (n key byte : ℕ) → byte < 256 → key < 256 ^ n → 256 * key + byte < 256 ^ (n + 1)
next_small n key byte lt small =
    let e : n + 1 ≡ suc n = omega arith in
    omega (arith, lt, small, ap (λ k. 256 ^ k) e ∙ pow-suc 256 n)

-- the first k bytes are equal
abbrev Agree : (a b : List ℕ) (k : ℕ) → Type 0
Agree a b k = (j : ℕ) → j < k → get_or a j 0 ≡ get_or b j 0

keys_agree : (a b : List ℕ) → AreBytes a → AreBytes b → (n : ℕ) → key_to a n ≡ key_to b n → Agree a b n
keys_agree a b one two zero same = λ j lt. absurd (omega (arith, lt))
keys_agree a b one two (suc n) same =
    let x = byte_small a one n in
    let y = byte_small b two n in
    let before : key_to a n ≡ key_to b n = omega (arith, same, key_step a n, key_step b n, x, y) in
    let last : get_or a n 0 ≡ get_or b n 0 = omega (arith, same, key_step a n, key_step b n, before) in
    λ j lt. ⊎_elim
    (λ (less : j < n). keys_agree a b one two n before j less)
    (λ (le : n ≤ j).
    let e : j ≡ n = omega (arith, lt, le) in
    ap (λ k. get_or a k 0) e ∙ last ∙ ap (λ k. get_or b k 0) (sym e))
    (cases_lt j n)

-- the first byte that differs is less
record IsBelow (a b : List ℕ) : Type 0 where
  k : ℕ
  before : Agree a b k
  less : get_or a k 0 < get_or b k 0

keys_less : (a b : List ℕ) → AreBytes a → AreBytes b → (n : ℕ) → key_to a n < key_to b n → IsBelow a b
keys_less a b one two zero lt = absurd (omega (arith, lt, key_first a, key_first b))
keys_less a b one two (suc n) lt =
    let x = byte_small a one n in
    let y = byte_small b two n in
    ⊎_elim
    (λ (less : key_to a n < key_to b n). keys_less a b one two n less)
    (λ (le : key_to b n ≤ key_to a n).
    let same : key_to a n ≡ key_to b n = omega (arith, lt, le, key_step a n, key_step b n, x, y) in
    record {
      k = n;
      before = keys_agree a b one two n same;
      less = omega (arith, lt, same, key_step a n, key_step b n);
    })
    (cases_lt (key_to a n) (key_to b n))

below_less : (a b : List ℕ) (k : ℕ) → Agree a b k → get_or a k 0 < get_or b k 0 → slice_cmp nat_cmp a b ≡ Less
below_less [] [] k agree less = absurd (omega (arith, less, get_or_past {X = ℕ} [] k 0 (omega arith)))
below_less [] (y ∷ ys) k agree less = refl
below_less (x ∷ xs) [] k agree less = absurd (omega (arith, less, get_or_past {X = ℕ} [] k 0 (omega arith)))
below_less (x ∷ xs) (y ∷ ys) zero agree less =
    ap (λ o. ordering_then o (slice_cmp nat_cmp xs ys)) (sym (nat_cmp_is x y Less less))
below_less (x ∷ xs) (y ∷ ys) (suc k) agree less =
    let same : x ≡ y = agree 0 (omega arith) in
    ap (λ o. ordering_then o (slice_cmp nat_cmp xs ys)) (sym (nat_cmp_is x y Equal same))
    ∙ below_less xs ys k (λ j lt. agree (suc j) (omega (arith, lt))) less

pub key_less : (a b : List ℕ) → AreBytes a → AreBytes b → key_of a < key_of b → slice_cmp nat_cmp a b ≡ Less
unfolding key_of
key_less a b one two lt = let is = keys_less a b one two 8 lt in below_less a b is.k is.before is.less

pub key_greater : (a b : List ℕ) → AreBytes a → AreBytes b → key_of b < key_of a → slice_cmp nat_cmp a b ≡ Greater
key_greater a b one two lt = nat_list_cmp_total.antisymm a b ∙ ap ordering_reverse (key_less b a two one lt)
