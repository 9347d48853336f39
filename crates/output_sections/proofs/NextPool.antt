-- The pool whose first section is a number, in a walk along the pools.
use Rattle.std.proofs.Common.{◌≡◌, ◌≢◌, ℕ, zero, suc, ◌+◌, ◌<◌, ◌≤◌, ◌==◌, List, [], ◌∷◌, length, map, refl, ap, sym, ◌∙◌, arith, get_or, inl, inr, subst, ◌-◌}
use Rattle.std.specs.Prelude.{slice_index}
use Rattle.std.proofs.lemmas.Bool.{cond-true, cond-false, eq-eqb, ne_eqb, cases_lt}
use Rattle.std.proofs.lemmas.List.{get_or-map, length-map}
use Rattle.link_sections.specs.declared.pools.Pool.{Pool}
use Rattle.link_sections.specs.InputSections.{InputSection}
use Rattle.link_sections.specs.Pools.{AreRising}
use Rattle.output_sections.specs.Items.{IsNext, pool_at, pool_item}

pub none_at : (p : ℕ) (pools : List Pool) (n : ℕ) (s : InputSection) → ((i : ℕ) (d : Pool) → i < length pools → (get_or pools i d).first ≢ n) → pool_at p pools n s ≡ []
unfolding pool_at
none_at p [] n s other = refl
none_at p (pool ∷ pools) n s other =
    cond-false (pool.first == n) _ _ (ne_eqb pool.first n (other 0 pool (omega arith)))
    ∙ none_at (p + 1) pools n s (λ i d lt. other (suc i) d (omega arith))

some_at : (p q next : ℕ) (pools : List Pool) (pool : Pool) (n : ℕ) (s : InputSection) → p + next ≡ q → next < length pools → pool ≡ get_or pools next pool
    → ((i : ℕ) (d : Pool) → i < next → (get_or pools i d).first ≢ n) → pool.first ≡ n → pool_at p pools n s ≡ pool_item q pool.size s ∷ []
unfolding pool_at
some_at p q next [] pool n s at lt is other own = absurd (omega arith)
some_at p q zero (first ∷ pools) pool n s at lt is other own =
    let same : pool ≡ first = is in
    let same_number : p ≡ q = omega arith in
    cond-true (first.first == n) _ _ (eq-eqb first.first n (ap (λ (x : Pool). x.first) (sym same) ∙ own))
    ∙ ap (λ (x : Pool). pool_item p x.size s ∷ []) (sym same) ∙ ap (λ k. pool_item k pool.size s ∷ []) same_number
some_at p q (suc next) (first ∷ pools) pool n s at lt is other own =
    cond-false (first.first == n) _ _ (ne_eqb first.first n (other 0 first (omega arith)))
    ∙ some_at (p + 1) q next pools pool n s (omega arith) (omega arith) is (λ i d less. other (suc i) d (omega arith)) own

-- pools rise by their first sections
rise_step : (pools : List Pool) (d : Pool) (k : ℕ) → AreRising pools → k + 1 < length pools → (get_or pools k d).first < (get_or pools (k + 1) d).first
rise_step pools d k rising lt =
    let first : Pool → ℕ = λ p. p.first in
    let count = length-map pools first in
    let step : slice_index (map first pools) k < slice_index (map first pools) (k + 1) = rising k (omega arith) in
    let low = get_or-map first pools k d 0 (omega arith) in
    let high = get_or-map first pools (k + 1) d 0 (omega arith) in
    omega arith

rise : (pools : List Pool) (d : Pool) (i k : ℕ) → AreRising pools → i + suc k < length pools → (get_or pools i d).first < (get_or pools (i + suc k) d).first
rise pools d i zero rising lt = let e : i + 1 ≡ i + suc zero = omega arith in rw (sym e) (rise_step pools d i rising (omega arith))
rise pools d i (suc k) rising lt =
    let low = rise pools d i k rising (omega arith) in
    let high = rise_step pools d (i + suc k) rising (omega arith) in
    let e : i + suc k + 1 ≡ i + suc (suc k) = omega arith in
    let P : ℕ → Type 0 = λ m. (get_or pools i d).first < (get_or pools m d).first in
    subst P e (omega (arith, low, high))

later_than : (pools : List Pool) (d : Pool) (i j : ℕ) → AreRising pools → i < j → j < length pools → (get_or pools i d).first < (get_or pools j d).first
later_than pools d i j rising less lt =
    let e : i + suc (j - suc i) ≡ j = omega arith in
    let P : ℕ → Type 0 = λ m. (get_or pools i d).first < (get_or pools m d).first in
    subst P e (rise pools d i (j - suc i) rising (omega arith))

-- past the last pool
pub past_all : (pools : List Pool) (n next : ℕ) (s : InputSection) → IsNext pools n next → length pools ≤ next → [] ≡ pool_at 0 pools n s
past_all pools n next s is end = sym (none_at 0 pools n s (λ i d lt same. let before = is.past i d (omega arith) in absurd (omega (arith, before, same))))

get_or_any : {X : Type 0} (xs : List X) (i : ℕ) (d e : X) → i < length xs → get_or xs i d ≡ get_or xs i e
get_or_any [] i d e lt = absurd (omega arith)
get_or_any (x ∷ xs) zero d e lt = refl
get_or_any (x ∷ xs) (suc i) d e lt = get_or_any xs i d e (omega arith)

-- a pool is that of its first section
pub pool_here : (pools : List Pool) (p : ℕ) (d : Pool) (s : InputSection) → AreRising pools → p < length pools
    → pool_at 0 pools (get_or pools p d).first s ≡ pool_item p (get_or pools p d).size s ∷ []
pool_here pools p d s rising lt =
    some_at 0 p p pools (get_or pools p d) (get_or pools p d).first s (omega arith) lt (get_or_any pools p d (get_or pools p d) lt)
    (λ i e less same. let low = later_than pools e i p rising less lt in absurd (omega (arith, low, same, ap (λ (x : Pool). x.first) (get_or_any pools p d e lt)))) refl

-- the next pool has another first section
above : (pools : List Pool) (n next : ℕ) (pool : Pool) → IsNext pools n next → AreRising pools → next < length pools → pool ≡ get_or pools next pool → pool.first ≢ n
    → (i : ℕ) (d : Pool) → next ≤ i → i < length pools → n + 1 ≤ (get_or pools i d).first
above pools n next pool is rising lt at other i d from below =
    let low : n ≤ (get_or pools next d).first = is.later next d (omega arith) lt in
    let same : pool ≡ get_or pools next d = at ∙ get_or_any pools next pool d lt in
    let apart : (get_or pools next d).first ≢ n = λ e. other (ap (λ (x : Pool). x.first) same ∙ e) in
    let here : n < (get_or pools next d).first = elim (cases_lt n (get_or pools next d).first) [
      | inl less ↦ less
      | inr not_less ↦ absurd (apart (omega arith))
    ] in
    elim (cases_lt next i) [
      | inl less ↦ let more = later_than pools d next i rising less below in omega (arith, here, more)
      | inr not_less ↦ let e : next ≡ i = omega arith in subst (λ m. n + 1 ≤ (get_or pools m d).first) e (omega arith)
    ]

pub not_here : (pools : List Pool) (n next : ℕ) (pool : Pool) (s : InputSection) → IsNext pools n next → AreRising pools → next < length pools → pool ≡ get_or pools next pool
    → pool.first ≢ n → [] ≡ pool_at 0 pools n s
not_here pools n next pool s is rising lt at other =
    sym (none_at 0 pools n s (λ i d less same. elim (cases_lt i next) [
      | inl before ↦ let low = is.past i d before in absurd (omega (arith, low, same))
      | inr from ↦ let high = above pools n next pool is rising lt at other i d from less in absurd (omega (arith, high, same))
    ]))

pub here : (pools : List Pool) (n next : ℕ) (pool : Pool) (s : InputSection) → IsNext pools n next → next < length pools → pool ≡ get_or pools next pool
    → pool.first ≡ n → pool_item next pool.size s ∷ [] ≡ pool_at 0 pools n s
here pools n next pool s is lt at own =
    sym (some_at 0 next next pools pool n s (omega arith) lt at (λ i d less same. let low = is.past i d less in absurd (omega (arith, low, same))) own)

-- the next pool of the section after
pub next_past : (pools : List Pool) (n next : ℕ) → IsNext pools n next → length pools ≤ next → IsNext pools (n + 1) next
next_past pools n next is end = record {
  within = is.within;
  past = λ i d less. let low = is.past i d less in omega (arith, low);
  later = λ i d from less. absurd (omega arith);
}

pub next_same : (pools : List Pool) (n next : ℕ) (pool : Pool) → IsNext pools n next → AreRising pools → next < length pools → pool ≡ get_or pools next pool
    → pool.first ≢ n → IsNext pools (n + 1) next
next_same pools n next pool is rising lt at other = record {
  within = is.within;
  past = λ i d less. let low = is.past i d less in omega (arith, low);
  later = above pools n next pool is rising lt at other;
}

pub next_more : (pools : List Pool) (n next : ℕ) (pool : Pool) → IsNext pools n next → AreRising pools → next < length pools → pool ≡ get_or pools next pool
    → pool.first ≡ n → IsNext pools (n + 1) (next + 1)
next_more pools n next pool is rising lt at own = record {
  within = omega arith;
  past = λ i d less. elim (cases_lt i next) [
    | inl before ↦ let low = is.past i d before in omega (arith, low)
    | inr not_less ↦ let e : next ≡ i = omega arith in
        let low : n ≤ (get_or pools next d).first = is.later next d (omega arith) lt in
        let same : (get_or pools next d).first ≡ n = ap (λ (x : Pool). x.first) (sym (at ∙ get_or_any pools next pool d lt)) ∙ own in
        subst (λ m. (get_or pools m d).first < n + 1) e (omega (arith, same))
  ];
  later = λ i d from less.
      let low : n ≤ (get_or pools next d).first = is.later next d (omega arith) lt in
      let more = later_than pools d next i rising (omega arith) less in
      omega (arith, low, more);
}
