-- How many numbers pass a test, and how many classes there are.
use Rattle.std.proofs.Common.{◌≡◌, ◌≢◌, ℕ, zero, suc, ◌+◌, ◌<◌, ◌≤◌, ◌==◌, Bool, true, false, cond, not, List, [], ◌∷◌, length, get_or, refl, sym, ap, ◌∙◌, inl, inr, arith}
use Rattle.std.specs.List.{filter, list_any, range_with_len}
use Rattle.std.proofs.lemmas.Bool.{cases_Bool, cases_lt, eq-eqb, eqb-false, eqb-true}
use Rattle.std.proofs.lemmas.List.{length-append}
use Rattle.std.proofs.lemmas.List.Elements.{filter-append}
use Rattle.std.specs.Cmp.{both_ways}
use Rattle.lk_base.proofs.Loops.{range_more}
use Rattle.lk_base.proofs.Membership.{any_from, from_range, in_range}
use Rattle.icf_part.specs.Counts.{how_many, is_new, leader_count}
use Rattle.icf_part.specs.Numbered.{AreFirsts}
use Rattle.icf_part.proofs.Deciding.{any_tells}

abbrev pub one_if : Bool → ℕ
one_if b = cond b 1 0

one_length : (b : Bool) (n : ℕ) → length (cond b (n ∷ []) []) ≡ cond b 1 0
one_length true n = refl
one_length false n = refl

pub more : (p : ℕ → Bool) (n : ℕ) → how_many p (n + 1) ≡ how_many p n + cond (p n) 1 0
unfolding how_many
more p n =
    ap (λ l. length (filter p l)) (range_more n) ∙ ap length (filter-append p (range_with_len 0 n) (n ∷ []))
    ∙ length-append (filter p (range_with_len 0 n)) (filter p (n ∷ [])) ∙ ap (λ k. length (filter p (range_with_len 0 n)) + k) (one_length (p n) n)

pub none : (p : ℕ → Bool) → how_many p 0 ≡ 0
unfolding how_many
none p = refl

next : (p : ℕ → Bool) (n : ℕ) → how_many p (suc n) ≡ how_many p n + cond (p n) 1 0
next p n = let e : suc n ≡ n + 1 = omega arith in ap (how_many p) e ∙ more p n

pub same : (p q : ℕ → Bool) (n : ℕ) → ((k : ℕ) → k < n → p k ≡ q k) → how_many p n ≡ how_many q n
same p q zero is = none p ∙ sym (none q)
same p q (suc n) is =
    let before = same p q n (λ k lt. is k (omega arith)) in
    next p n ∙ ap (λ j. j + cond (p n) 1 0) before ∙ ap (λ b. how_many q n + one_if b) (is n (omega arith)) ∙ sym (next q n)

at_most_one : (b : Bool) → cond b 1 0 ≤ 1
at_most_one true = omega arith
at_most_one false = omega arith

pub most : (p : ℕ → Bool) (n : ℕ) → how_many p n ≤ n
most p zero = omega (arith, none p)
most p (suc n) = omega (arith, next p n, most p n, at_most_one (p n))

one_passes : (a b : Bool) → (a ≡ true → b ≡ true) → cond a 1 0 ≤ cond b 1 0
one_passes true b is = let e = ap one_if (is refl) in omega (arith, e)
one_passes false b is = omega arith

pub fewer : (p q : ℕ → Bool) (n : ℕ) → ((k : ℕ) → k < n → p k ≡ true → q k ≡ true) → how_many p n ≤ how_many q n
fewer p q zero is = omega (arith, none p)
fewer p q (suc n) is =
    omega (arith, next p n, next q n, fewer p q n (λ k lt. is k (omega arith)), one_passes (p n) (q n) (is n (omega arith)))

pub record Found (p : ℕ → Bool) (n : ℕ) : Type 0 where
  pub k : ℕ
  pub within : k < n
  pub passes : p k ≡ true

pub found : (p : ℕ → Bool) (n : ℕ) → 0 < how_many p n → Found p n
found p zero some = absurd (omega (arith, some, none p))
found p (suc n) some = elim (cases_Bool (p n)) [
  | inl is ↦ record { k = n; within = omega arith; passes = is }
  | inr fails ↦
      let e = ap one_if fails in
      let rest = found p n (omega (arith, some, next p n, e)) in
      record { k = rest.k; within = omega (arith, rest.within); passes = rest.passes }
]

pub counted : (p : ℕ → Bool) (n k : ℕ) → k < n → p k ≡ true → 0 < how_many p n
counted p zero k lt is = absurd (omega arith)
counted p (suc n) k lt is = elim (cases_lt k n) [
  | inl less ↦ omega (arith, next p n, counted p n k less is)
  | inr last ↦
      let e : k ≡ n = omega arith in
      let b = ap one_if (ap p (sym e) ∙ is) in omega (arith, next p n, b)
]

-- one number more passes
record OneMore (p q : ℕ → Bool) (g n : ℕ) : Type 0 where
  before : n ≤ g → how_many q n ≡ how_many p n
  after : g < n → how_many q n ≡ how_many p n + 1

one_step : (p q : ℕ → Bool) (g : ℕ) → p g ≡ false → q g ≡ true → (n : ℕ) → ((k : ℕ) → k < suc n → k ≢ g → p k ≡ q k) → OneMore p q g n → OneMore p q g (suc n)
one_step p q g fails passes n others old = record {
  before = λ le.
      let e = ap one_if (others n (omega arith) (omega arith)) in
      omega (arith, old.before (omega arith), e, next p n, next q n);
  after = λ lt. elim (cases_lt g n) [
    | inl less ↦
        let e = ap one_if (others n (omega arith) (omega arith)) in
        omega (arith, old.after less, e, next p n, next q n)
    | inr last ↦
        let here : n ≡ g = omega arith in
        let f = ap one_if (ap p here ∙ fails) in
        let t = ap one_if (ap q here ∙ passes) in
        omega (arith, old.before (omega arith), f, t, next p n, next q n)
  ];
}

ones : (p q : ℕ → Bool) (g : ℕ) → p g ≡ false → q g ≡ true → (n : ℕ) → ((k : ℕ) → k < n → k ≢ g → p k ≡ q k) → OneMore p q g n
ones p q g fails passes zero others = record { before = λ le. none q ∙ sym (none p); after = λ lt. absurd (omega arith) }
ones p q g fails passes (suc n) others = one_step p q g fails passes n others (ones p q g fails passes n (λ k lt other. others k (omega arith) other))

pub one_more : (p q : ℕ → Bool) (g n : ℕ) → g < n → p g ≡ false → q g ≡ true → ((k : ℕ) → k < n → k ≢ g → p k ≡ q k) → how_many q n ≡ how_many p n + 1
one_more p q g n lt fails passes others = (ones p q g fails passes n others).after lt

-- tests of the numbers below one
pub any_below : (p : ℕ → Bool) (n k : ℕ) → k < n → p k ≡ true → list_any p (range_with_len 0 n) ≡ true
any_below p n k lt is = any_from p (range_with_len 0 n) k (in_range n k lt) is

pub below_any : (p : ℕ → Bool) (n : ℕ) → list_any p (range_with_len 0 n) ≡ true → Found p n
below_any p n is = let some = any_tells p (range_with_len 0 n) is in record { k = some.x; within = from_range n some.x some.listed; passes = some.passes }

pub any_same : (p q : ℕ → Bool) (n : ℕ) → ((k : ℕ) → k < n → p k ≡ q k) → list_any p (range_with_len 0 n) ≡ list_any q (range_with_len 0 n)
any_same p q n is = both_ways (list_any p (range_with_len 0 n)) (list_any q (range_with_len 0 n))
    (λ t. let f = below_any p n t in any_below q n f.k f.within (sym (is f.k f.within) ∙ f.passes))
    (λ t. let f = below_any q n t in any_below p n f.k f.within (is f.k f.within ∙ f.passes))

pub not_any : (b : Bool) → (b ≡ true → ⊥) → not b ≡ true
not_any true no_one = absurd (no_one refl)
not_any false no_one = refl

-- items that are their own leaders are those of whose class there is none before
pub news_lead : (n : ℕ) (alike : ℕ → ℕ → Bool) (c : List ℕ) → AreFirsts n c → ((b a : ℕ) → b < n → a < n → alike b a ≡ true → get_or c b 0 ≡ get_or c a 0) →
    ((b a : ℕ) → b < n → a < n → get_or c b 0 ≡ get_or c a 0 → alike b a ≡ true) → how_many (is_new alike) n ≡ leader_count c
news_lead n alike c firsts tells says =
    ap (λ k. how_many (is_new alike) k) (sym firsts.wide)
    ∙ same (is_new alike) (λ a. get_or c a 0 == a) (length c) (λ a lt.
    let la : a < n = omega (arith, lt, firsts.wide) in
    let some : Bool = list_any (λ b. alike b a) (range_with_len 0 a) in
    elim (cases_Bool (get_or c a 0 == a)) [
      | inl own ↦
          let is = eqb-true (get_or c a 0) a own in
          not_any some (λ t.
          let f = below_any (λ b. alike b a) a t in
          let lb : f.k < n = omega (arith, f.within) in
          let low = firsts.least a f.k la lb (tells f.k a lb la f.passes) in
          omega (arith, low, is, f.within)) ∙ sym own
      | inr other ↦
          let isnt = eqb-false (get_or c a 0) a other in
          let low = firsts.least a a la la refl in
          let less : get_or c a 0 < a = omega (arith, low, isnt) in
          ap not (any_below (λ b. alike b a) a (get_or c a 0) less (says (get_or c a 0) a (firsts.within a la) la (firsts.own a la))) ∙ sym other
    ])

-- finer classes are no fewer
pub leads_fewer : (n : ℕ) (c d : List ℕ) → AreFirsts n c → AreFirsts n d → ((a b : ℕ) → a < n → b < n → get_or d a 0 ≡ get_or d b 0 → get_or c a 0 ≡ get_or c b 0) →
    leader_count c ≤ leader_count d
leads_fewer n c d one two finer =
    let wide : length c ≡ length d = one.wide ∙ sym two.wide in
    let e = ap (λ k. how_many (λ a. get_or d a 0 == a) k) wide in
    let f = fewer (λ a. get_or c a 0 == a) (λ a. get_or d a 0 == a) (length c) (λ a lt own.
    let la : a < n = omega (arith, lt, one.wide) in
    let is = eqb-true (get_or c a 0) a own in
    let x = get_or d a 0 in
    let lx = two.within a la in
    let low = two.least a a la la refl in
    let back = finer x a lx la (two.own a la) in
    let least = one.least x x lx lx refl in
    eq-eqb x a (omega (arith, low, least, back, is))) in
    omega (arith, e, f)
