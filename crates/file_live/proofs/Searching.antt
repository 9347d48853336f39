-- What a search by a queue comes to.
use Rattle.std.proofs.Common.{◌≡◌, ℕ, ◌+◌, ◌<◌, ◌≤◌, Bool, true, false, Vec, Global, List, [], ◌∷◌, ◌++◌, length, get_or, set, replicate, All, Contains, refl, sym, ap, ◌∙◌, subst, ⊎_elim, arith}
use Rattle.std.proofs.lemmas.List.{length-set, length_push, length-replicate, get_or-replicate, get_or-set_same, get_or_append_left, get_or_past, get_or_default}
use Rattle.std.proofs.lemmas.List.Elements.{All-nil, All-cons, All-head, All-tail, All-weaker, All-contains, Contains-append_left, Contains-append_right, Contains-push, Contains-push_cases, Contains-get_or}
use Rattle.std.proofs.lemmas.Bool.{cases_Bool, cases_eq, cases_lt, cond-true, cond-false, both_ways}
use Rattle.lk_tables.specs.Reach.{mark, ends_at, IsClosed, IsReach, unmarked}
use Rattle.lk_tables.proofs.Marking.{none_marked, one_marked, set_marked, set_marks}
use Rattle.std.specs.Prelude.{flat_map}
use Rattle.std.specs.List.{range_with_len}
use Rattle.name_numbers.proofs.Walks.{walk_skip, walk_push}
use Rattle.file_live.specs.Visits.{Reached, reached, visited, all_visited}

-- the marks and the queue say the same
pub record Tied (n : ℕ) (r : Reached) : Type 0 where
  pub wide : length r.seen ≡ n
  pub counted : unmarked r.seen + length r.queue ≡ n
  pub queued : (f : ℕ) → mark r.seen f ≡ true → Contains r.queue f
  pub marked : (f : ℕ) → Contains r.queue f → mark r.seen f ≡ true

-- a place is marked already, or is marked now
pub one_visit : (P : Reached → Type 0) (r : Reached) (f : ℕ) → (mark r.seen f ≡ true → P r) → (mark r.seen f ≡ false → P (reached (set r.seen f true) (r.queue ++ f ∷ []))) → P (visited r f)
one_visit P r f old new = ⊎_elim
    (λ (is : mark r.seen f ≡ true). subst P (sym (cond-true (mark r.seen f) r (reached (set r.seen f true) (r.queue ++ f ∷ [])) is)) (old is))
    (λ (is : mark r.seen f ≡ false). subst P (sym (cond-false (mark r.seen f) r (reached (set r.seen f true) (r.queue ++ f ∷ [])) is)) (new is))
    (cases_Bool (mark r.seen f))

pub tied_visit : (n : ℕ) (r : Reached) (f : ℕ) → Tied n r → f < n → Tied n (visited r f)
tied_visit n r f t lt =
    let wide = t.wide in
    let counted = t.counted in
    one_visit (Tied n) r f (λ is. t) (λ is. record {
      wide = length-set r.seen f true ∙ wide;
      counted = omega (arith, one_marked r.seen f (omega arith) is, length_push r.queue f);
      queued = λ g has. ⊎_elim
          (λ (same : g ≡ f). subst (λ k. Contains (r.queue ++ f ∷ []) k) (sym same) (Contains-push r.queue f))
          (λ other. Contains-append_left r.queue (f ∷ []) g (t.queued g (set_marked r.seen f g has other)))
          (cases_eq g f);
      marked = λ g has. ⊎_elim
          (λ (in_queue : Contains r.queue g). set_marks r.seen f g (t.marked g in_queue) (omega arith))
          (λ (same : f ≡ g). subst (λ k. mark (set r.seen f true) k ≡ true) same (get_or-set_same r.seen f true false (omega arith)))
          (Contains-push_cases r.queue f g has);
    })

pub tied_all : (n : ℕ) (r : Reached) (fs : List ℕ) → Tied n r → All (λ f. f < n) fs → Tied n (all_visited r fs)
tied_all n r [] t within = t
tied_all n r (f ∷ fs) t within =
    tied_all n (visited r f) fs (tied_visit n r f t (All-head (λ (k : ℕ). k < n) f fs within)) (All-tail (λ (k : ℕ). k < n) f fs within)

-- marks stay, and the queue grows at its end
pub record Kept (r s : Reached) : Type 0 where
  pub wide : length s.seen ≡ length r.seen
  pub marks : (f : ℕ) → mark r.seen f ≡ true → mark s.seen f ≡ true
  pub front : (k : ℕ) → k < length r.queue → get_or s.queue k 0 ≡ get_or r.queue k 0
  pub longer : length r.queue ≤ length s.queue

kept_same : (r : Reached) → Kept r r
kept_same r = record { wide = refl; marks = λ f is. is; front = λ k lt. refl; longer = omega arith }

kept_then : (r s t : Reached) → Kept r s → Kept s t → Kept r t
kept_then r s t a b = let l = a.longer in let m = b.longer in record {
  wide = b.wide ∙ a.wide;
  marks = λ f is. b.marks f (a.marks f is);
  front = λ k lt. b.front k (omega arith) ∙ a.front k lt;
  longer = omega arith;
}

pub kept_visit : (r : Reached) (f : ℕ) → f < length r.seen → Kept r (visited r f)
kept_visit r f lt = one_visit (Kept r) r f (λ is. kept_same r) (λ is. record {
  wide = length-set r.seen f true;
  marks = λ g has. set_marks r.seen f g has lt;
  front = λ k less. get_or_append_left r.queue (f ∷ []) 0 k less;
  longer = omega (arith, length_push r.queue f);
})

kept_all : (r : Reached) (fs : List ℕ) → All (λ f. f < length r.seen) fs → Kept r (all_visited r fs)
kept_all r [] within = kept_same r
kept_all r (f ∷ fs) within =
    let lt : f < length r.seen = All-head (λ (k : ℕ). k < length r.seen) f fs within in
    let one = kept_visit r f lt in
    let wide = one.wide in
    let rest = All-weaker (λ (k : ℕ). k < length r.seen) (λ (k : ℕ). k < length (visited r f).seen) (λ k less. omega arith) fs (All-tail (λ (k : ℕ). k < length r.seen) f fs within) in
    kept_then r (visited r f) (all_visited (visited r f) fs) one (kept_all (visited r f) fs rest)

visit_marks : (r : Reached) (f : ℕ) → f < length r.seen → mark (visited r f).seen f ≡ true
visit_marks r f lt = one_visit (λ s. mark s.seen f ≡ true) r f (λ is. is) (λ is. get_or-set_same r.seen f true false lt)

all_marked : (r : Reached) (fs : List ℕ) → All (λ f. f < length r.seen) fs → All (λ f. mark (all_visited r fs).seen f ≡ true) fs
all_marked r [] within = All-nil (λ (f : ℕ). mark r.seen f ≡ true)
all_marked r (f ∷ fs) within =
    let lt : f < length r.seen = All-head (λ (k : ℕ). k < length r.seen) f fs within in
    let one = kept_visit r f lt in
    let wide = one.wide in
    let rest = All-weaker (λ (k : ℕ). k < length r.seen) (λ (k : ℕ). k < length (visited r f).seen) (λ k less. omega arith) fs (All-tail (λ (k : ℕ). k < length r.seen) f fs within) in
    let later = kept_all (visited r f) fs rest in
    All-cons (λ (g : ℕ). mark (all_visited (visited r f) fs).seen g ≡ true) f fs (later.marks f (visit_marks r f lt)) (all_marked (visited r f) fs rest)

-- what comes into the queue is of a set
within_visit : (s : ℕ → Bool) (r : Reached) (f : ℕ) → s f ≡ true → ((g : ℕ) → Contains r.queue g → s g ≡ true) → (g : ℕ) → Contains (visited r f).queue g → s g ≡ true
within_visit s r f is all = one_visit (λ t. (g : ℕ) → Contains t.queue g → s g ≡ true) r f (λ old. all) (λ new g has. ⊎_elim
    (λ (before : Contains r.queue g). all g before)
    (λ (same : f ≡ g). subst (λ k. s k ≡ true) same is)
    (Contains-push_cases r.queue f g has))

within_all : (s : ℕ → Bool) (r : Reached) (fs : List ℕ) → ((f : ℕ) → Contains fs f → s f ≡ true) → ((g : ℕ) → Contains r.queue g → s g ≡ true) → (g : ℕ) → Contains (all_visited r fs).queue g → s g ≡ true
within_all s r [] each all g has = all g has
within_all s r (f ∷ fs) each all g has =
    within_all s (visited r f) fs (λ k later. each k (Contains-append_right (f ∷ []) fs k later)) (within_visit s r f (each f (0, omega arith, refl)) all) g has

-- a search that has followed the first places of its queue
pub record Searched (roots : List ℕ) (ends : List (List ℕ)) (next : ℕ) (r : Reached) : Type 0 where
  pub tied : Tied (length ends) r
  pub rooted : All (λ f. mark r.seen f ≡ true) roots
  pub followed : (k : ℕ) → k < next → All (λ g. mark r.seen g ≡ true) (ends_at ends (get_or r.queue k 0))
  pub least : (s : ℕ → Bool) → IsClosed roots ends s → (f : ℕ) → Contains r.queue f → s f ≡ true

pub tied_first : (n : ℕ) → Tied n (reached (replicate n false) [])
tied_first n = record {
  wide = length-replicate n false;
  counted = omega (arith, none_marked n);
  queued = λ f is. ⊎_elim
      (λ (lt : f < n). absurd (both_ways (mark (replicate n false) f) (get_or-replicate n f false false lt) is))
      (λ (past : n ≤ f). absurd (both_ways (mark (replicate n false) f) (get_or_past (replicate n false) f false (omega (arith, length-replicate {A = Bool} n false))) is))
      (cases_lt f n);
  marked = λ f has. let lt = has.1 in absurd (omega arith);
}

pub searched_first : (roots : List ℕ) (ends : List (List ℕ)) (n : ℕ) → n ≡ length ends → All (λ f. f < length ends) roots → Searched roots ends 0 (all_visited (reached (replicate n false) []) roots)
searched_first roots ends n same within =
    let start = reached (replicate n false) [] in
    let first : Tied (length ends) start = subst (λ k. Tied k start) same (tied_first n) in
    let wide = first.wide in
    record {
      tied = tied_all (length ends) start roots first within;
      rooted = all_marked start roots (All-weaker (λ (f : ℕ). f < length ends) (λ (f : ℕ). f < length start.seen) (λ f lt. omega arith) roots within);
      followed = λ k lt. absurd (omega arith);
      least = λ s closed. within_all s start roots closed.rooted (λ g has. let lt = has.1 in absurd (omega arith));
    }

pub searched_start : (roots : List ℕ) (lists : List (List ℕ)) (n : ℕ) (seen : List Bool) (queue : List ℕ) (r : Reached) → n ≡ length lists → All (λ f. f < n) roots → seen ≡ replicate n false → queue ≡ [] → r ≡ all_visited (reached seen queue) roots → Searched roots lists 0 r
searched_start roots lists n seen queue r same within fresh empty is =
    let P : Reached → Type 0 = Searched roots lists 0 in
    subst P (sym (is ∙ ap (λ s. all_visited (reached s queue) roots) fresh ∙ ap (λ q. all_visited (reached (replicate n false) q) roots) empty))
    (searched_first roots lists n same (All-weaker (λ (f : ℕ). f < n) (λ (f : ℕ). f < length lists) (λ f lt. omega arith) roots within))

-- a place of the queue is one that has ends
pub queue_within : (roots : List ℕ) (ends : List (List ℕ)) (next : ℕ) (r : Reached) → next < length r.queue → Searched roots ends next r → get_or r.queue next 0 < length ends
queue_within roots ends next r lt s =
    let f = get_or r.queue next 0 in
    let is = s.tied.marked f (Contains-get_or r.queue next 0 lt) in
    let wide = s.tied.wide in
    ⊎_elim
    (λ (low : f < length ends). low)
    (λ (past : length ends ≤ f). absurd (both_ways (mark r.seen f) (get_or_past r.seen f false (omega arith)) is))
    (cases_lt f (length ends))

pub searched_more : (roots : List ℕ) (ends : List (List ℕ)) (next : ℕ) (r : Reached) → next < length r.queue → ((f : ℕ) → All (λ g. g < length ends) (ends_at ends f)) → Searched roots ends next r → Searched roots ends (next + 1) (all_visited r (ends_at ends (get_or r.queue next 0)))
searched_more roots ends next r lt within s =
    let f = get_or r.queue next 0 in
    let fs = ends_at ends f in
    let wide = s.tied.wide in
    let fit = All-weaker (λ (g : ℕ). g < length ends) (λ (g : ℕ). g < length r.seen) (λ g less. omega arith) fs (within f) in
    let kept = kept_all r fs fit in
    let t = all_visited r fs in
    record {
      tied = tied_all (length ends) r fs s.tied (within f);
      rooted = All-weaker (λ (g : ℕ). mark r.seen g ≡ true) (λ (g : ℕ). mark t.seen g ≡ true) kept.marks roots s.rooted;
      followed = λ k less. ⊎_elim
          (λ (before : k < next).
          subst (λ q. All (λ g. mark t.seen g ≡ true) (ends_at ends q)) (sym (kept.front k (omega arith)))
          (All-weaker (λ (g : ℕ). mark r.seen g ≡ true) (λ (g : ℕ). mark t.seen g ≡ true) kept.marks (ends_at ends (get_or r.queue k 0)) (s.followed k before)))
          (λ (last : next ≤ k).
          let e : next ≡ k = omega arith in
          subst (λ j. All (λ g. mark t.seen g ≡ true) (ends_at ends (get_or t.queue j 0))) e
          (subst (λ q. All (λ g. mark t.seen g ≡ true) (ends_at ends q)) (sym (kept.front next lt)) (all_marked r fs fit)))
          (cases_lt k next);
      least = λ p closed. within_all p r fs (λ g has. closed.followed f g (s.least p closed f (Contains-get_or r.queue next 0 lt)) has) (s.least p closed);
    }

-- once all of the queue is followed, the marks are what is reached
pub searched_all : (roots : List ℕ) (ends : List (List ℕ)) (next : ℕ) (r : Reached) → length r.queue ≤ next → Searched roots ends next r → IsReach roots ends r.seen
searched_all roots ends next r all s = record {
  wide = s.tied.wide;
  closed = record {
    rooted = λ f has. All-contains (λ (g : ℕ). mark r.seen g ≡ true) roots f s.rooted has;
    followed = λ f g is has.
        let q = s.tied.queued f is in
        let k : ℕ = q.0 in
        let lt = q.1 in
        let at : get_or r.queue k 0 ≡ f = get_or_default r.queue k 0 f lt ∙ q.2 in
        All-contains (λ (h : ℕ). mark r.seen h ≡ true) (ends_at ends f) g (subst (λ j. All (λ h. mark r.seen h ≡ true) (ends_at ends j)) at (s.followed k (omega arith))) has;
  };
  least = λ p closed f is. s.least p closed f (s.tied.queued f is);
}

-- more places, one list after the other
pub visited_append : (r : Reached) (fs gs : List ℕ) → all_visited r (fs ++ gs) ≡ all_visited (all_visited r fs) gs
visited_append r [] gs = refl
visited_append r (f ∷ fs) gs = visited_append (visited r f) fs gs

pub length_visited : (r : Reached) (f : ℕ) → length (visited r f).seen ≡ length r.seen
length_visited r f = one_visit (λ s. length s.seen ≡ length r.seen) r f (λ is. refl) (λ is. length-set r.seen f true)

pub length_all_visited : (r : Reached) (fs : List ℕ) → length (all_visited r fs).seen ≡ length r.seen
length_all_visited r [] = refl
length_all_visited r (f ∷ fs) = length_all_visited (visited r f) fs ∙ length_visited r f

-- a loop that visits what numbers give
abbrev pub AreVisited : (g : ℕ → List ℕ) (start now : Reached) (i : ℕ) → Type 0
AreVisited g start now i = (length now.seen ≡ length start.seen) × (now ≡ all_visited start (flat_map g (range_with_len 0 i)))

pub visit_skip : (g : ℕ → List ℕ) (start now : Reached) (i : ℕ) → AreVisited g start now i → g i ≡ [] → AreVisited g start now (i + 1)
visit_skip g start now i are none =
    (are.0, are.1 ∙ ap (all_visited start) (walk_skip g [] (flat_map g (range_with_len 0 i)) i refl none))

pub visit_next : (g : ℕ → List ℕ) (start now new : Reached) (i f : ℕ) → AreVisited g start now i → g i ≡ f ∷ [] → new ≡ visited now f → AreVisited g start new (i + 1)
visit_next g start now new i f are one is = (
  ap (λ (r : Reached). length r.seen) is ∙ length_visited now f ∙ are.0,
  is ∙ ap (λ r. visited r f) are.1 ∙ sym (visited_append start (flat_map g (range_with_len 0 i)) (f ∷ []))
      ∙ ap (all_visited start) (walk_push g [] (flat_map g (range_with_len 0 i)) (flat_map g (range_with_len 0 i) ++ f ∷ []) f i refl refl one),
)

-- the same marks and queue, in the vectors that the code has
pub reached_same : (seen seen2 : Vec Bool Global) (queue queue2 : Vec ℕ Global) → seen ≡ seen2 → queue ≡ queue2 → reached seen.items queue.items ≡ reached seen2.items queue2.items
reached_same seen seen2 queue queue2 a b = ap (λ (v : Vec Bool Global). reached v.items queue.items) a ∙ ap (λ (v : Vec ℕ Global). reached seen2.items v.items) b
