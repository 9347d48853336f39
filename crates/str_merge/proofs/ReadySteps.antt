-- What becomes of the pieces of small pools, by pool.
use Rattle.std.proofs.Common.{◌≡◌, ℕ, zero, suc, ◌+◌, ◌<◌, ◌≤◌, Result, Ok, IfOk, Option, List, [], ◌∷◌, length, get_or, set, sym, ◌∙◌, subst, arith}
use Rattle.std.specs.Global.{Vec}
use Rattle.std.proofs.lemmas.List.{get_or-set_other, length-set}
use Rattle.lk_base.specs.declared.defects.LinkStop.{LinkStop}
use Rattle.work_split.specs.Shares.{EachFrom, IsShare}
use Rattle.work_split.proofs.Sharing.{each_rises}
use Rattle.str_merge.specs.declared.pooling.Pooled.{Pooled}
use Rattle.str_merge.specs.declared.pooling.Work.{Work}
use Rattle.str_merge.specs.Cutting.{no_defects}
use Rattle.str_merge.specs.Pooling.{AreReady, IsReady}

each_at : {X : Type 0} (Is : ℕ → X → Type 0) (a b : ℕ) (xs : List X) (k : ℕ) (d : X) → EachFrom Is a b xs → k < length xs → Is (a + k) (get_or xs k d)
each_at Is a b [] k d held lt = absurd (omega arith)
each_at Is a b (x ∷ xs) zero d held lt = let here : a ≡ a + 0 = omega arith in subst (λ i. Is i x) here held.0
each_at Is a b (x ∷ xs) (suc k) d held lt =
    let on : (a + 1) + k ≡ a + suc k = omega arith in
    subst (λ i. Is i (get_or xs k d)) on (each_at Is (a + 1) b xs k d held.1 (omega arith))

pub ready_all : (w : Work) (r : Result (Vec (Option Pooled)) LinkStop) (list : Vec (Option Pooled)) → r ≡ Ok list →
    IsShare no_defects (IsReady w) 0 (length w.firsts.now) r → AreReady w list.items
ready_all w r list is share =
    let P : Result (Vec (Option Pooled)) LinkStop → Type 0 = λ q. IfOk q (λ l. EachFrom (IsReady w) 0 (length w.firsts.now) l.items) in
    let each = subst P is share.each in
    record {
      count = omega (arith, each_rises (IsReady w) 0 (length w.firsts.now) list.items each);
      each = λ p d lt.
          let from : 0 + p ≡ p = omega arith in
          subst (λ i. IsReady w i (get_or list.items p d)) from (each_at (IsReady w) 0 (length w.firsts.now) list.items p d each lt);
    }

-- those that are left from a pool on
pub record AreLeft (w : Work) (pool : ℕ) (list : List (Option Pooled)) : Type 0 where
  pub count : length list ≡ length w.firsts.now
  pub each : (p : ℕ) (d : Option Pooled) → pool ≤ p → p < length list → IsReady w p (get_or list p d)

pub left_first : (w : Work) (list : List (Option Pooled)) → AreReady w list → AreLeft w 0 list
left_first w list are = record { count = are.count; each = λ p d low lt. are.each p d lt }

pub left_next : (w : Work) (pool : ℕ) (list : List (Option Pooled)) (x : Option Pooled) → AreLeft w pool list → AreLeft w (pool + 1) (set list pool x)
left_next w pool list x left =
    let long = length-set list pool x in
    record {
      count = long ∙ left.count;
      each = λ p d low lt.
          let P : Option Pooled → Type 0 = IsReady w p in
          subst P (sym (get_or-set_other list pool p x d (omega (arith, low)))) (left.each p d (omega (arith, low)) (omega (arith, lt, long)));
    }
