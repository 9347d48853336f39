-- What runs of calls lose, while sizes rise.
use Rattle.std.proofs.Common.{◌≡◌, ℕ, ◌+◌, ◌-◌, ◌*◌, ◌<◌, ◌≤◌, List, [], ◌∷◌, ◌++◌, length, set, take, get_or, ap, sym, ◌∙◌, arith, inl, inr}
use Rattle.std.specs.Prelude.{if◌then◌else◌, min}
use Rattle.std.specs.List.{sum_by}
use Rattle.std.proofs.lemmas.Bool.{cases_eq, cases_lt, le-ltb, lt-ltb}
use Rattle.std.proofs.lemmas.List.{get_or_append_left, get_or_push, get_or-set_other, get_or-set_same, length-append, length-set, take-take, take_all}
use Rattle.std.proofs.lemmas.List.Sums.{sum_by-take-le}
use Rattle.std.proofs.Math.Nat.{mul-le-mul_right}
use Rattle.relax.specs.Jumps.{lost_upto, size_at}
use Rattle.relax.specs.Losses.{AreRuns}
use Rattle.relax.proofs.LeastSizes.{set_lost}

pub run_more : (j w : ℕ) → (j + 1) * w ≡ j * w + w
run_more j w = omega arith

runs_before : (j p w : ℕ) → j < p → j * w + w ≤ p * w
runs_before j p w lt =
    let most : (j + 1) * w ≤ p * w = mul-le-mul_right w (omega (arith, lt)) in
    omega (arith, most, run_more j w)

-- fewer calls lose no more, and past the last no more is lost
upto_in : (z : List ℕ) (a b : ℕ) → a ≤ b → lost_upto z a ≤ lost_upto z b
upto_in z a b le =
    let part = sum_by-take-le (λ s. 8 - s) (take b z) a in
    let same = ap (sum_by (λ s. 8 - s)) (take-take a b z le) in
    omega (arith, part, same)

upto_past : (z : List ℕ) (m : ℕ) → length z ≤ m → lost_upto z m ≡ lost_upto z (length z)
upto_past z m le = ap (sum_by (λ s. 8 - s)) (take_all m z le ∙ sym (take_all (length z) z (omega arith)))

-- the first runs, up to a call
pub record AreFirstRuns (w : ℕ) (z runs : List ℕ) (first : ℕ) : Type 0 where
  pub place : first ≡ min (length runs * w) (length z)
  pub each : (j : ℕ) → j < length runs → lost_upto z (j * w) + get_or runs j 0 ≡ lost_upto z (j * w + w)

run_lost : (z : List ℕ) (first m next x : ℕ) → first ≤ m → next ≡ min m (length z) → first ≤ next → x ≡ lost_upto z next - lost_upto z first → lost_upto z first + x ≡ lost_upto z m
run_lost z first m next x low is up lost = elim (cases_lt (length z) m) [
  | inl past ↦
      let same : next ≡ length z = omega (arith, is, past) in
      omega (arith, lost, upto_in z first next up, ap (lost_upto z) same, upto_past z m (omega (arith, past)))
  | inr upto ↦
      let same : next ≡ m = omega (arith, is, upto) in
      omega (arith, lost, upto_in z first next up, ap (lost_upto z) same)
]

pub one_run : (w : ℕ) (z runs : List ℕ) (first next x : ℕ) → AreFirstRuns w z runs first → first < length z → next ≡ min (first + w) (length z) → x ≡ lost_upto z next - lost_upto z first →
    AreFirstRuns w z (runs ++ x ∷ []) next
one_run w z runs first next x is lt to lost =
    let here : first ≡ length runs * w = omega (arith, is.place, lt) in
    let count : length (runs ++ x ∷ []) ≡ length runs + 1 = length-append runs (x ∷ []) in
    record {
      place = omega (arith, to, here, ap (λ n. n * w) count, run_more (length runs) w);
      each = λ j less. elim (cases_lt j (length runs)) [
        | inl before ↦ omega (arith, is.each j before, get_or_append_left runs (x ∷ []) 0 j before)
        | inr after ↦
            let last : j ≡ length runs = omega (arith, after, less, count) in
            let own : get_or (runs ++ x ∷ []) j 0 ≡ x = get_or_push runs x 0 j (sym last) in
            let from : j * w ≡ first = ap (λ n. n * w) last ∙ sym here in
            let sum = run_lost z first (first + w) next x (omega arith) to (omega (arith, to, lt)) lost in
            omega (arith, own, sum, ap (lost_upto z) from, ap (λ n. lost_upto z (n + w)) from)
      ];
    }

-- one size that rises takes what it gains off its run
pub run_falls : (w : ℕ) (z runs : List ℕ) (k s p : ℕ) → AreRuns w z runs → k < length z → size_at z k ≤ s → s ≤ 8 → p * w ≤ k → k < p * w + w → p < length runs →
    AreRuns w (set z k s) (set runs p (get_or runs p 0 - (s - size_at z k)))
run_falls w z runs k s p is lt low few from to there =
    let y = set z k s in
    let x = get_or runs p 0 - (s - size_at z k) in
    let before : (m : ℕ) → m ≤ k → lost_upto y m ≡ lost_upto z m = λ m le.
    omega (arith, set_lost z k s m lt low few, ap (λ b. if b then s - size_at z k else 0) (le-ltb k m le)) in
    let after : (m : ℕ) → k < m → lost_upto y m + (s - size_at z k) ≡ lost_upto z m = λ m less.
    omega (arith, set_lost z k s m lt low few, ap (λ b. if b then s - size_at z k else 0) (lt-ltb k m less)) in
    record {
      covers = omega (arith, is.covers, length-set z k s, ap (λ n. n * w) (length-set runs p x));
      each = λ j less. elim (cases_eq j p) [
        | inl same ↦
            let own : get_or (set runs p x) j 0 ≡ x = ap (λ n. get_or (set runs p x) n 0) same ∙ get_or-set_same runs p x 0 there in
            let old = is.each p there in
            let sum : lost_upto y (p * w) + x ≡ lost_upto y (p * w + w) =
            omega (arith, old, before (p * w) from, after (p * w + w) to, upto_in y (p * w) (p * w + w) (omega arith)) in
            omega (arith, own, sum, ap (λ n. lost_upto y (n * w)) same, ap (λ n. lost_upto y (n * w + w)) same)
        | inr other ↦
            let old = is.each j (omega (arith, less, length-set runs p x)) in
            let own = get_or-set_other runs p j x 0 other in
            elim (cases_lt j p) [
              | inl less ↦
                  let le = runs_before j p w less in
                  omega (arith, old, own, before (j * w) (omega (arith, le, from)), before (j * w + w) (omega (arith, le, from)))
              | inr more ↦
                  let le = runs_before p j w (omega (arith, more, other)) in
                  omega (arith, old, own, after (j * w) (omega (arith, le, to)), after (j * w + w) (omega (arith, le, to)))
            ]
      ];
    }
