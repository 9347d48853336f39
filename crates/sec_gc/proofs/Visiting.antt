-- What visits do to the marks and the queue.
use Rattle.std.proofs.Common.{◌≡◌, ◌≢◌, ℕ, ◌<◌, ◌≤◌, true, false, List, [], ◌∷◌, ◌++◌, length, get_or, set, All, refl, sym, ◌∙◌, subst, ⊎_elim, arith}
use Rattle.std.proofs.lemmas.List.{length-set, length_push, get_or-set_same, get_or-set_other, get_or_append_left}
use Rattle.std.proofs.lemmas.List.Elements.{All-nil, All-cons, All-head, All-tail}
use Rattle.std.proofs.lemmas.Bool.{cases_Bool, cond-true, cond-false, both_ways}
use Rattle.lk_tables.specs.Reach.{mark}
use Rattle.sec_gc.specs.Visits.{Progress, progress, visited, all_visited}

-- a place is marked already, or is marked now
pub one_visit : (P : Progress → Type 0) (p : Progress) (f : ℕ) → (mark p.seen f ≡ true → P p) → (mark p.seen f ≡ false → P (progress (set p.seen f true) (p.queue ++ f ∷ []))) → P (visited p f)
one_visit P p f old new = ⊎_elim
    (λ (is : mark p.seen f ≡ true). subst P (sym (cond-true (mark p.seen f) p (progress (set p.seen f true) (p.queue ++ f ∷ [])) is)) (old is))
    (λ (is : mark p.seen f ≡ false). subst P (sym (cond-false (mark p.seen f) p (progress (set p.seen f true) (p.queue ++ f ∷ [])) is)) (new is))
    (cases_Bool (mark p.seen f))

-- what one visit keeps, all keep
pub all_keep : (P : Progress → Type 0) (Fits : ℕ → Type 0) → ((p : Progress) (f : ℕ) → P p → Fits f → P (visited p f)) → (p : Progress) (fs : List ℕ) → P p → All Fits fs → P (all_visited p fs)
all_keep P Fits keeps p [] held fit = held
all_keep P Fits keeps p (f ∷ fs) held fit =
    all_keep P Fits keeps (visited p f) fs (keeps p f held (All-head Fits f fs fit)) (All-tail Fits f fs fit)

-- marks stay, and the queue grows at its end
pub record Grown (p q : Progress) : Type 0 where
  pub wide : length q.seen ≡ length p.seen
  pub marks : (f : ℕ) → mark p.seen f ≡ true → mark q.seen f ≡ true
  pub prefix : (k : ℕ) → k < length p.queue → get_or q.queue k 0 ≡ get_or p.queue k 0
  pub longer : length p.queue ≤ length q.queue

pub grown_same : (p : Progress) → Grown p p
grown_same p = record { wide = refl; marks = λ f is. is; prefix = λ k lt. refl; longer = omega arith }

pub grown_visit : (p q : Progress) (f : ℕ) → Grown p q → Grown p (visited q f)
grown_visit p q f g = one_visit (Grown p) q f (λ is. g) (λ new.
    let l = g.longer in
    record {
      wide = length-set q.seen f true ∙ g.wide;
      marks = λ h is.
          let other : h ≢ f = λ same. both_ways (mark q.seen f) new (subst (λ k. mark q.seen k ≡ true) same (g.marks h is)) in
          get_or-set_other q.seen f h true false other ∙ g.marks h is;
      prefix = λ k lt. get_or_append_left q.queue (f ∷ []) 0 k (omega arith) ∙ g.prefix k lt;
      longer = omega (arith, length_push q.queue f);
    })

pub grown_all : (p q : Progress) (fs : List ℕ) → Grown p q → Grown p (all_visited q fs)
grown_all p q [] g = g
grown_all p q (f ∷ fs) g = grown_all p (visited q f) fs (grown_visit p q f g)

visit_marks : (p : Progress) (f : ℕ) → f < length p.seen → mark (visited p f).seen f ≡ true
visit_marks p f lt = one_visit (λ q. mark q.seen f ≡ true) p f (λ is. is) (λ is. get_or-set_same p.seen f true false lt)

pub all_marked : (n : ℕ) (p : Progress) (fs : List ℕ) → n ≡ length p.seen → All (λ f. f < n) fs → All (λ f. mark (all_visited p fs).seen f ≡ true) fs
all_marked n p [] wide within = All-nil (λ (f : ℕ). mark p.seen f ≡ true)
all_marked n p (f ∷ fs) wide within =
    let lt : f < n = All-head (λ (k : ℕ). k < n) f fs within in
    let one = grown_visit p p f (grown_same p) in
    let later = grown_all (visited p f) (visited p f) fs (grown_same (visited p f)) in
    All-cons (λ (g : ℕ). mark (all_visited (visited p f) fs).seen g ≡ true) f fs (later.marks f (visit_marks p f (omega (arith, wide, lt))))
    (all_marked n (visited p f) fs (wide ∙ sym one.wide) (All-tail (λ (k : ℕ). k < n) f fs within))
