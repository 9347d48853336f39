-- What a search by a queue comes to.
use Rattle.std.proofs.Common.{◌≡◌, ◌≢◌, ℕ, suc, ◌+◌, ◌<◌, ◌≤◌, Bool, true, false, List, [], ◌∷◌, ◌++◌, length, get_or, replicate, All, Contains, sym, ap, ◌∙◌, subst, ⊎_elim, arith}
use Rattle.std.proofs.lemmas.List.{length-set, length_push, length-replicate, get_or-replicate, get_or-set_other, get_or_append_left, get_or_default, get_or_past, get_or_push}
use Rattle.std.proofs.lemmas.List.Elements.{All-contains, All-from_get_or, Contains-append_left, Contains-get_or, Contains-push}
use Rattle.std.proofs.lemmas.Bool.{both_ways, cases_eq, cases_lt}
use Rattle.lk_tables.specs.Reach.{mark, ends_at, IsClosed, IsReach}
use Rattle.lk_tables.proofs.Marking.{none_marked, one_marked}
use Rattle.sec_gc.specs.Kept.{reached, reached_in}
use Rattle.sec_gc.specs.Visits.{Progress, progress, visited, all_visited, Searched, Tied}
use Rattle.sec_gc.proofs.Reaching.{marks_are, more_rounds, next_reached, reached_inside, root_reached}
use Rattle.sec_gc.proofs.Visiting.{all_keep, all_marked, grown_all, grown_same, one_visit}

-- each end is a place of the list
pub ends_within : (ends : List (List ℕ)) → All (All (λ g. g < length ends)) ends → (f : ℕ) → All (λ g. g < length ends) (ends_at ends f)
ends_within ends within f = λ i d less. ⊎_elim
    (λ (lt : f < length ends). within f [] lt i d less)
    (λ (past : length ends ≤ f). absurd (omega (arith, less, ap length (get_or_past ends f [] past))))
    (cases_lt f (length ends))

module _ (roots : List ℕ) (ends : List (List ℕ)) where
  -- a place that may be visited once the queue has so many
  Fits : (from f : ℕ) → Type 0
  Fits from f = (f < length ends) × (reached_in roots ends from f ≡ true)

  tied_visit : (from : ℕ) (p : Progress) (f : ℕ) → Tied roots ends from p → Fits from f → Tied roots ends from (visited p f)
  unfolding Fits
  tied_visit from p f t fit =
      let wide = t.wide in
      let counted = t.counted in
      let longer = t.longer in
      let lt = fit.0 in
      one_visit (Tied roots ends from) p f (λ is. t) (λ is. record {
        wide = length-set p.seen f true ∙ wide;
        counted = omega (arith, one_marked p.seen f (omega arith) is, length_push p.queue f);
        queued = λ g has. ⊎_elim
            (λ (same : g ≡ f). subst (λ k. Contains (p.queue ++ f ∷ []) k) (sym same) (Contains-push p.queue f))
            (λ (other : g ≢ f). Contains-append_left p.queue (f ∷ []) g (t.queued g (sym (get_or-set_other p.seen f g true false other) ∙ has)))
            (cases_eq g f);
        found = λ k less. ⊎_elim
            (λ (before : k < length p.queue). subst (λ g. reached_in roots ends k g ≡ true) (sym (get_or_append_left p.queue (f ∷ []) 0 k before)) (t.found k before))
            (λ (last : length p.queue ≤ k).
            let same : length p.queue ≡ k = omega (arith, less, length_push p.queue f) in
            subst (λ g. reached_in roots ends k g ≡ true) (sym (get_or_push p.queue f 0 k same)) (more_rounds roots ends from k f (omega arith) fit.1))
            (cases_lt k (length p.queue));
        within = λ k less. ⊎_elim
            (λ (before : k < length p.queue). subst (λ g. g < length ends) (sym (get_or_append_left p.queue (f ∷ []) 0 k before)) (t.within k before))
            (λ (last : length p.queue ≤ k).
            let same : length p.queue ≡ k = omega (arith, less, length_push p.queue f) in
            subst (λ g. g < length ends) (sym (get_or_push p.queue f 0 k same)) lt)
            (cases_lt k (length p.queue));
        longer = omega (arith, length_push p.queue f);
      })

  tied_from : (from to : ℕ) (p : Progress) → Tied roots ends from p → to ≤ length p.queue → Tied roots ends to p
  tied_from from to p t le = record { wide = t.wide; counted = t.counted; queued = t.queued; found = t.found; within = t.within; longer = le }

  tied_first : Tied roots ends 0 (progress (replicate (length ends) false) [])
  tied_first = record {
    wide = length-replicate (length ends) false;
    counted = omega (arith, none_marked (length ends));
    queued = λ f is. ⊎_elim
        (λ (lt : f < length ends). absurd (both_ways (mark (replicate (length ends) false) f) (get_or-replicate (length ends) f false false lt) is))
        (λ (past : length ends ≤ f). absurd (both_ways (mark (replicate (length ends) false) f) (get_or_past (replicate (length ends) false) f false (omega (arith, length-replicate {A = Bool} (length ends) false))) is))
        (cases_lt f (length ends));
    found = λ k lt. absurd (omega arith);
    within = λ k lt. absurd (omega arith);
    longer = omega arith;
  }

  pub searched_first : All (λ r. r < length ends) roots → (p : Progress) → p ≡ all_visited (progress (replicate (length ends) false) []) roots → Searched roots ends 0 p
  unfolding Fits
  searched_first within p is =
      let start = progress (replicate (length ends) false) [] in
      let fit : All (Fits 0) roots = All-from_get_or (Fits 0) roots 0 (λ k lt. (within k 0 lt, root_reached roots ends (get_or roots k 0) (Contains-get_or roots k 0 lt))) in
      let P : Progress → Type 0 = Searched roots ends 0 in
      let first : Searched roots ends 0 (all_visited start roots) = record {
        tied = all_keep (Tied roots ends 0) (Fits 0) (tied_visit 0) start roots tied_first fit;
        rooted = λ f has. All-contains (λ (g : ℕ). mark (all_visited start roots).seen g ≡ true) roots f (all_marked (length ends) start roots (sym tied_first.wide) within) has;
        followed = λ k g lt has. absurd (omega arith);
        low = omega arith;
      } in
      subst P (sym is) first

  -- one place more
  pub searched_one : All (All (λ g. g < length ends)) ends → (next f : ℕ) (p new : Progress) → next < length p.queue → f ≡ get_or p.queue next 0 → Searched roots ends next p →
      new ≡ all_visited p (ends_at ends f) → Searched roots ends (next + 1) new
  unfolding Fits
  searched_one within next f p new low at s is =
      let n = length p.queue in
      let fs = ends_at ends f in
      let q = all_visited p fs in
      let t = s.tied in
      let own : reached_in roots ends next f ≡ true = subst (λ g. reached_in roots ends next g ≡ true) (sym at) (t.found next low) in
      let fit : All (Fits n) fs = All-from_get_or (Fits n) fs 0 (λ i less.
      let has_end = Contains-get_or fs i 0 less in
      (ends_within ends within f i 0 less, more_rounds roots ends (suc next) n (get_or fs i 0) (omega (arith, low)) (next_reached roots ends next f (get_or fs i 0) own has_end))) in
      let grown = grown_all p p fs (grown_same p) in
      let marked = all_marked (length ends) p fs (sym t.wide) (λ i d less. let one = fit i d less in one.0) in
      let P : Progress → Type 0 = Searched roots ends (next + 1) in
      let more : Searched roots ends (next + 1) q = record {
        tied = tied_from n 0 q (all_keep (Tied roots ends n) (Fits n) (tied_visit n) p fs (tied_from 0 n p t (omega arith)) fit) (omega arith);
        rooted = λ h has. grown.marks h (s.rooted h has);
        followed = λ k g lt has.
            let before_end : k < length p.queue = omega (arith, lt, low) in
            let own_end : Contains (ends_at ends (get_or p.queue k 0)) g = subst (λ h. Contains (ends_at ends h) g) (grown.prefix k before_end) has in
            ⊎_elim
            (λ (before : k < next). grown.marks g (s.followed k g before own_end))
            (λ (now : next ≤ k).
            let e : k ≡ next = omega (arith, lt, now) in
            let same : get_or p.queue k 0 ≡ f = ap (λ j. get_or p.queue j 0) e ∙ sym at in
            All-contains (λ (h : ℕ). mark q.seen h ≡ true) fs g marked (subst (λ h. Contains (ends_at ends h) g) same own_end))
            (cases_lt k next);
        low = omega (arith, low, grown.longer);
      } in
      subst P (sym is) more

  -- once all of the queue is followed
  closed_all : (next : ℕ) (p : Progress) → length p.queue ≤ next → Searched roots ends next p → IsClosed roots ends (mark p.seen)
  closed_all next p all s = record {
    rooted = s.rooted;
    followed = λ f g is has.
        let in_queue = s.tied.queued f is in
        let k : ℕ = in_queue.0 in
        let lt = in_queue.1 in
        let at : get_or p.queue k 0 ≡ f = get_or_default p.queue k 0 f lt ∙ in_queue.2 in
        s.followed k g (omega arith) (subst (λ h. Contains (ends_at ends h) g) (sym at) has);
  }

  all_found : (next : ℕ) (p : Progress) → Searched roots ends next p → (f : ℕ) → mark p.seen f ≡ true → reached_in roots ends (length ends) f ≡ true
  all_found next p s f is =
      let in_queue = s.tied.queued f is in
      let k : ℕ = in_queue.0 in
      let lt = in_queue.1 in
      let counted = s.tied.counted in
      let at : get_or p.queue k 0 ≡ f = get_or_default p.queue k 0 f lt ∙ in_queue.2 in
      more_rounds roots ends k (length ends) f (omega arith) (subst (λ g. reached_in roots ends k g ≡ true) at (s.tied.found k lt))

  pub searched_all : (next : ℕ) (p : Progress) → length p.queue ≤ next → Searched roots ends next p → IsReach roots ends p.seen
  searched_all next p all s = record {
    wide = s.tied.wide;
    closed = closed_all next p all s;
    least = λ c closed f is. reached_inside roots ends c closed (length ends) f (all_found next p s f is);
  }

  pub searched_is : (next : ℕ) (p : Progress) → length p.queue ≤ next → Searched roots ends next p → p.seen ≡ reached roots ends
  searched_is next p all s = marks_are roots ends p.seen s.tied.wide (closed_all next p all s) (all_found next p s)

  -- what is reached from the queue is what is reached from the roots
  pub reached_on : (next : ℕ) (p : Progress) (on : List Bool) → Searched roots ends next p → IsReach p.queue ends on → IsReach roots ends on
  reached_on next p on s reach = record {
    wide = reach.wide;
    closed = record {
      rooted = λ f has. reach.closed.rooted f (s.tied.queued f (s.rooted f has));
      followed = reach.closed.followed;
    };
    least = λ c closed f is. reach.least c (record {
      rooted = λ g has.
          let k : ℕ = has.0 in
          let lt = has.1 in
          let at : get_or p.queue k 0 ≡ g = get_or_default p.queue k 0 g lt ∙ has.2 in
          subst (λ h. c h ≡ true) at (reached_inside roots ends c closed k (get_or p.queue k 0) (s.tied.found k lt));
      followed = closed.followed;
    }) f is;
  }

  pub queue_within : (next : ℕ) (p : Progress) → Searched roots ends next p → All (λ g. g < length ends) p.queue
  queue_within next p s = All-from_get_or (λ g. g < length ends) p.queue 0 s.tied.within
