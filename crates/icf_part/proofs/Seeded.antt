-- Which classes wait at first.
use Rattle.std.proofs.Common.{◌≡◌, ◌≢◌, ◌⊎◌, ℕ, ◌+◌, ◌<◌, ◌≤◌, Bool, true, false, List, [], ◌∷◌, ◌++◌, length, get_or, set, Contains, refl, sym, ap, ◌∙◌, subst, ⊎_elim, inl, inr, arith}
use Rattle.std.proofs.lemmas.Bool.{cases_eq, cases_lt}
use Rattle.std.proofs.lemmas.List.{get_or-set_other, get_or-set_same, length-set}
use Rattle.std.proofs.lemmas.List.Elements.{Contains-append_left, Contains-append_right, Contains-append_cases}
use Rattle.lk_base.proofs.Membership.{only_one}
use Rattle.icf_part.specs.Classes.{IsLonger, Waits}
use Rattle.icf_part.specs.declared.seeds.Waiting.{Waiting}
use Rattle.icf_part.specs.Edges.{AreWaiting, end_at}

pub longer_same : (waits : List Bool) (queue : List ℕ) → IsLonger waits queue waits queue
longer_same waits queue = record { wide = refl; kept = λ label w. w; queued = λ has label w. has label w; inside = λ has label q. has label q }

pub longer_then : (w : List Bool) (q : List ℕ) (w2 : List Bool) (q2 : List ℕ) (w3 : List Bool) (q3 : List ℕ) → IsLonger w q w2 q2 → IsLonger w2 q2 w3 q3 → IsLonger w q w3 q3
longer_then w q w2 q2 w3 q3 one two = record {
  wide = two.wide ∙ one.wide;
  kept = λ label h. two.kept label (one.kept label h);
  queued = λ has. two.queued (one.queued has);
  inside = λ has. two.inside (one.inside has);
}

pub marked : (waits : List Bool) (class : ℕ) → class < length waits → Waits (set waits class true) class
marked waits class lt = get_or-set_same waits class true false lt

pub longer_one : (waits : List Bool) (queue : List ℕ) (class : ℕ) → class < length waits → IsLonger waits queue (set waits class true) (queue ++ class ∷ [])
longer_one waits queue class lt = record {
  wide = length-set waits class true;
  kept = λ label w. ⊎_elim
      (λ (here : label ≡ class). let P : ℕ → Type 0 = Waits (set waits class true) in subst P (sym here) (marked waits class lt))
      (λ (other : label ≢ class). get_or-set_other waits class label true false other ∙ w)
      (cases_eq label class);
  queued = λ has label w. ⊎_elim
      (λ (here : label ≡ class). let P : ℕ → Type 0 = Contains (queue ++ class ∷ []) in subst P (sym here) (Contains-append_right queue (class ∷ []) class (0, omega arith, refl)))
      (λ (other : label ≢ class). Contains-append_left queue (class ∷ []) label (has label (sym (get_or-set_other waits class label true false other) ∙ w)))
      (cases_eq label class);
  inside = λ has label q. ⊎_elim
      (λ (before : Contains queue label). omega (arith, has label before, length-set waits class true))
      (λ (last : Contains (class ∷ []) label). omega (arith, only_one class label last, lt, length-set waits class true))
      (Contains-append_cases queue (class ∷ []) label q);
}

-- what is known of one item's first places
abbrev pub Told : (classes own first : List ℕ) → (count : ℕ) → (waits : List Bool) → Type 0
Told classes own first count waits =
    (k : ℕ) → k < count → (get_or classes (get_or own k 0) 0 ≡ get_or classes (get_or first k 0) 0) ⊎ Waits waits (get_or classes (get_or own k 0) 0)

pub told_kept : (x y label : ℕ) (w : List Bool) (q : List ℕ) (w2 : List Bool) (q2 : List ℕ) → IsLonger w q w2 q2 → (x ≡ y) ⊎ Waits w label → (x ≡ y) ⊎ Waits w2 label
told_kept x y label w q w2 q2 longer told = ⊎_elim (λ (e : x ≡ y). inl e) (λ (was : Waits w label). inr (longer.kept label was)) told

pub told_next : (classes own first : List ℕ) (k : ℕ) (w : List Bool) (q : List ℕ) (w2 : List Bool) (q2 : List ℕ) (class other : ℕ) → IsLonger w q w2 q2 → Told classes own first k w →
    class ≡ get_or classes (get_or own k 0) 0 → other ≡ get_or classes (get_or first k 0) 0 → (class ≡ other) ⊎ Waits w2 class → Told classes own first (k + 1) w2
told_next classes own first k w q w2 q2 class other longer told is_class is_other last = λ j lt. ⊎_elim
    (λ (less : j < k). told_kept (get_or classes (get_or own j 0) 0) (get_or classes (get_or first j 0) 0) (get_or classes (get_or own j 0) 0) w q w2 q2 longer (told j less))
    (λ (past : k ≤ j).
    let e : j ≡ k = omega (arith, lt, past) in
    let read = ap (λ i. get_or classes (get_or own i 0) 0) e in
    ⊎_elim
    (λ (same : class ≡ other). inl (read ∙ sym is_class ∙ same ∙ is_other ∙ sym (ap (λ i. get_or classes (get_or first i 0) 0) e)))
    (λ (waits : Waits w2 class). let P : ℕ → Type 0 = Waits w2 in inr (subst P (is_class ∙ sym read) waits))
    last)
    (cases_lt j k)

-- what is known of the items before one
pub record AreWaitingUpto (ends : List (List ℕ)) (labels : List ℕ) (n : ℕ) (waits : List Bool) (queue : List ℕ) : Type 0 where
  pub count : length waits ≡ length labels
  pub told : (a k : ℕ) → a < n → k < length (get_or ends a []) →
      (get_or labels (end_at ends a k) 0 ≡ get_or labels (end_at ends (get_or labels a 0) k) 0) ⊎ Waits waits (get_or labels (end_at ends a k) 0)
  pub queued : (label : ℕ) → Waits waits label → Contains queue label
  pub inside : (label : ℕ) → Contains queue label → label < length labels

pub waiting_next : (ends : List (List ℕ)) (labels : List ℕ) (n : ℕ) (own first : List ℕ) (w : List Bool) (q : List ℕ) (w2 : List Bool) (q2 : List ℕ) → AreWaitingUpto ends labels n w q →
    own ≡ get_or ends n [] → first ≡ get_or ends (get_or labels n 0) [] → IsLonger w q w2 q2 → Told labels own first (length own) w2 → AreWaitingUpto ends labels (n + 1) w2 q2
waiting_next ends labels n own first w q w2 q2 are own_is first_is longer told =
    let count = are.count in
    record {
      count = longer.wide ∙ are.count;
      told = λ a k lt lk. ⊎_elim
          (λ (less : a < n).
          told_kept (get_or labels (end_at ends a k) 0) (get_or labels (end_at ends (get_or labels a 0) k) 0) (get_or labels (end_at ends a k) 0) w q w2 q2 longer (are.told a k less lk))
          (λ (past : n ≤ a).
          let e : n ≡ a = omega (arith, lt, past) in
          let P : List ℕ → Type 0 = λ o. Told labels o first (length o) w2 in
          let Q : List ℕ → Type 0 = λ f. Told labels (get_or ends n []) f (length (get_or ends n [])) w2 in
          let R : ℕ → Type 0 = λ b. Told labels (get_or ends b []) (get_or ends (get_or labels b 0) []) (length (get_or ends b [])) w2 in
          subst R e (subst Q first_is (subst P own_is told)) k lk)
          (cases_lt a n);
      queued = longer.queued are.queued;
      inside = λ label has. omega (arith, longer.inside (λ l c. omega (arith, are.inside l c, count)) label has, count);
    }

pub waiting_last : (ends : List (List ℕ)) (labels : List ℕ) (n : ℕ) (waiting : Waiting) → n ≡ length ends → AreWaitingUpto ends labels n waiting.waits.items waiting.queue.items → AreWaiting ends labels waiting
waiting_last ends labels n waiting e are = record {
  count = are.count;
  told = λ a k lt lk. are.told a k (omega (arith, lt, e)) lk;
  queued = are.queued;
  inside = are.inside;
}
