-- What the definition by rounds gives is what is reached.
use Rattle.std.proofs.Common.{◌≡◌, ℕ, zero, suc, ◌+◌, ◌<◌, ◌≤◌, Bool, false, Result, Ok, Err, IfOk, List, [], length, get_or, replicate, All, refl, subst, ⊎_elim, arith}
use Rattle.std.specs.Global.{Vec}
use Rattle.std.proofs.lemmas.Bool.{cases_lt}
use Rattle.lk_tables.specs.Reach.{IsReach, ends_at}
use Rattle.sec_gc.specs.Kept.{reached}
use Rattle.sec_gc.specs.Visits.{Progress, Searched, progress, all_visited}
use Rattle.sec_gc.proofs.Reaching.{reach_is_one}
use Rattle.sec_gc.proofs.Searching.{reached_on, searched_all, searched_first, searched_is, searched_one}

module _ (roots : List ℕ) (ends : List (List ℕ)) where
  -- a search that has come to its end
  record Done : Type 0 where
    progress : Progress
    next : ℕ
    all : length progress.queue ≤ next
    searched : Searched roots ends next progress

  run : All (All (λ g. g < length ends)) ends → (fuel next : ℕ) (p : Progress) → Searched roots ends next p → length ends ≤ next + fuel → Done
  run within zero next p s enough =
      let counted = s.tied.counted in
      record { progress = p; next = next; all = omega (arith, counted, enough); searched = s }
  run within (suc fuel) next p s enough = ⊎_elim
      (λ (more : next < length p.queue).
      let f = get_or p.queue next 0 in
      let q = all_visited p (ends_at ends f) in
      run within fuel (next + 1) q (searched_one roots ends within next f p q more refl s refl) (omega (arith, enough)))
      (λ (done : length p.queue ≤ next). record { progress = p; next = next; all = done; searched = s })
      (cases_lt next (length p.queue))

  pub reached_is : All (λ r. r < length ends) roots → All (All (λ g. g < length ends)) ends → IsReach roots ends (reached roots ends)
  reached_is rooted within =
      let start = all_visited (progress (replicate (length ends) false) []) roots in
      let end = run within (length ends) 0 start (searched_first roots ends rooted start refl) (omega arith) in
      subst (IsReach roots ends) (searched_is roots ends end.next end.progress end.all end.searched) (searched_all roots ends end.next end.progress end.all end.searched)

  -- so marks that are what is reached are those
  pub reach_is : All (λ r. r < length ends) roots → All (All (λ g. g < length ends)) ends → (on : List Bool) → IsReach roots ends on → on ≡ reached roots ends
  reach_is rooted within on is = reach_is_one roots ends on (reached roots ends) is (reached_is rooted within)

  pub kept_is : {E : Type 0} (r : Result (Vec Bool) E) → All (λ r. r < length ends) roots → All (All (λ g. g < length ends)) ends → IfOk r (λ on. IsReach roots ends on.items) → IfOk r (λ on. on.items ≡ reached roots ends)
  kept_is (Ok on) rooted within is = reach_is rooted within on.items is
  kept_is (Err e) rooted within is = tt

  -- what is reached from the queue of a search
  pub reach_from : {E : Type 0} (r : Result (Vec Bool) E) (next : ℕ) (p : Progress) → Searched roots ends next p → IfOk r (λ on. IsReach p.queue ends on.items) → IfOk r (λ on. IsReach roots ends on.items)
  reach_from (Ok on) next p s is = reached_on roots ends next p on.items s is
  reach_from (Err e) next p s is = tt
