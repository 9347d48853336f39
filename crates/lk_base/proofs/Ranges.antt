-- Runs of numbers, and lists over them.
use Rattle.std.proofs.Common.{◌≡◌, ℕ, zero, suc, ◌+◌, ◌-◌, ◌<◌, ◌≤◌, List, [], ◌∷◌, ◌++◌, map, flat_map, get_or, append_assoc, sym, ap, ◌∙◌, arith, refl, Bool, cond, take}
use Rattle.std.specs.List.{filter, range_with_len}
use Rattle.std.proofs.lemmas.Grind.{flat_map-append}
use Rattle.std.proofs.lemmas.List.FromFn.{get_or-range_with_len, length-range_with_len, map-range_with_len_more, take-map-range_with_len}
use Rattle.std.specs.Prelude.{All}
use Rattle.std.proofs.lemmas.List.{map-id}

-- a run in two parts
pub range_parts : (a m b : ℕ) → range_with_len a (m + b) ≡ range_with_len a m ++ range_with_len (a + m) b
range_parts a zero b =
    let e : a ≡ a + 0 = omega arith in
    let n : 0 + b ≡ b = omega arith in
    ap (range_with_len a) n ∙ ap (λ k. range_with_len k b) e
range_parts a (suc m) b =
    let e : (a + 1) + m ≡ a + suc m = omega arith in
    let n : suc m + b ≡ suc (m + b) = omega arith in
    ap (range_with_len a) n ∙ ap (λ l. a ∷ l) (range_parts (a + 1) m b ∙ ap (λ k. range_with_len (a + 1) m ++ range_with_len k b) e)

-- and what is given for each of its numbers
pub two_parts : {X : Type 0} (give : ℕ → List X) (a m b : ℕ) → a ≤ m → m ≤ b →
    flat_map give (range_with_len a (b - a)) ≡ flat_map give (range_with_len a (m - a)) ++ flat_map give (range_with_len m (b - m))
two_parts give a m b low high =
    let n : b - a ≡ (m - a) + (b - m) = omega arith in
    let from : a + (m - a) ≡ m = omega arith in
    ap (λ k. flat_map give (range_with_len a k)) n ∙ ap (flat_map give) (range_parts a (m - a) (b - m))
    ∙ flat_map-append give (range_with_len a (m - a)) (range_with_len (a + (m - a)) (b - m))
    ∙ ap (λ k. flat_map give (range_with_len a (m - a)) ++ flat_map give (range_with_len k (b - m))) from

-- the number at a place of the first n
pub range_read : (n k d : ℕ) → k < n → get_or (range_with_len 0 n) k d ≡ k
range_read n k d lt = let e : 0 + k ≡ k = omega arith in get_or-range_with_len 0 n k d lt ∙ e

-- a list over the numbers so far, after another one: one number on
pub row_step : {X : Type 0} (give : ℕ → X) (n : ℕ) (prefix old new : List X) (x : X) → old ≡ prefix ++ map give (range_with_len 0 n) → new ≡ old ++ x ∷ [] →
    x ≡ give n → new ≡ prefix ++ map give (range_with_len 0 (n + 1))
row_step give n prefix old new x held is own =
    is ∙ ap (λ l. l ++ x ∷ []) held ∙ ap (λ y. (prefix ++ map give (range_with_len 0 n)) ++ y ∷ []) own
    ∙ append_assoc prefix (map give (range_with_len 0 n)) (give n ∷ [])
    ∙ ap (λ l. prefix ++ l) (sym (map-range_with_len_more give 0 n n (omega arith)))

pub each_below : (n : ℕ) → All (λ k. k < n) (range_with_len 0 n)
each_below n = λ i d lt. let at = get_or-range_with_len 0 n i d (omega (arith, length-range_with_len 0 n)) in omega (arith, length-range_with_len 0 n)

-- the same elements
pub same_range : {X : Type 0} (g k : ℕ → List X) (a n : ℕ) → ((j : ℕ) → a ≤ j → j < a + n → g j ≡ k j) → flat_map g (range_with_len a n) ≡ flat_map k (range_with_len a n)
same_range g k a zero each = refl
same_range g k a (suc n) each =
    ap (λ xs. xs ++ flat_map g (range_with_len (a + 1) n)) (each a (omega arith) (omega arith))
    ∙ ap (λ xs. k a ++ xs) (same_range g k (a + 1) n (λ j low high. each j (omega arith) (omega arith)))

pub filter_same : (p q : ℕ → Bool) (a n : ℕ) → ((k : ℕ) → a ≤ k → k < a + n → p k ≡ q k) → filter p (range_with_len a n) ≡ filter q (range_with_len a n)
filter_same p q a zero each = refl
filter_same p q a (suc n) each =
    ap (λ b. cond b (a ∷ filter p (range_with_len (a + 1) n)) (filter p (range_with_len (a + 1) n))) (each a (omega arith) (omega arith))
    ∙ ap (λ l. cond (q a) (a ∷ l) l) (filter_same p q (a + 1) n (λ k low high. each k (omega arith) (omega arith)))

pub take_range : (n f : ℕ) → f ≤ n → take f (range_with_len 0 n) ≡ range_with_len 0 f
take_range n f le =
    ap (take f) (sym (map-id (range_with_len 0 n))) ∙ take-map-range_with_len (λ (x : ℕ). x) 0 n f le ∙ map-id (range_with_len 0 f)
