-- Marks that are set one after the other, and the list of what was marked.
use Rattle.std.proofs.Common.{All, Bool, Contains, IsPermutation, IsSorted, List, [], arith, eqb, false, get_or, inl, inr, length, nat_cmp, refl, set, subst, sym, true, ℕ, ⊎_elim, ◌++◌, ◌+◌, ◌<◌, ◌==◌, ◌∙◌, ◌∷◌, ◌≡◌, ◌≢◌, ◌≤◌, ◌⊎◌}
use Rattle.std.specs.Cmp.{nat_eq_equiv}
use Rattle.std.specs.List.{IsDistinct, list_any}
use Rattle.std.proofs.lemmas.Bool.{both_ways, cases_Bool, cases_eq, cond-false, cond-true, false_from_ne_true}
use Rattle.std.proofs.lemmas.List.{get_or-set_same, length-set, length_push}
use Rattle.std.proofs.lemmas.List.Elements.{All-head, All-tail, Contains-append_left, Contains-push, Contains-push_cases}
use Rattle.std.proofs.lemmas.List.Kept.{AllPairs-from_increasing}
use Rattle.std.proofs.lemmas.List.Sorted.{IsNonDecreasingBy-from_sort}
use Rattle.std.proofs.lemmas.Map.Keys.{IsDistinct-IsPermutation, IsDistinct-push, IsStrictlyIncreasing-from_distinct}
use Rattle.lk_base.proofs.Membership.{head_or_tail, in_tail}
use Rattle.lk_tables.specs.Reach.{mark, unmarked}
use Rattle.lk_tables.proofs.Marking.{one_marked, set_marked, set_marks}
use Rattle.why_chain.specs.Visits.{Gathered, all_gathered, gathered, one_gathered}
use Rattle.why_chain.proofs.Meets.{any_has}

-- a number is marked already, or is marked now
one_case : (P : Gathered → Type 0) (g : Gathered) (f : ℕ) → (mark g.seen f ≡ true → P g) → (mark g.seen f ≡ false → P (gathered (set g.seen f true) (g.row ++ f ∷ []))) → P (one_gathered g f)
one_case P g f old new = ⊎_elim
    (λ (is : mark g.seen f ≡ true). subst P (sym (cond-true (mark g.seen f) g (gathered (set g.seen f true) (g.row ++ f ∷ [])) is)) (old is))
    (λ (is : mark g.seen f ≡ false). subst P (sym (cond-false (mark g.seen f) g (gathered (set g.seen f true) (g.row ++ f ∷ [])) is)) (new is))
    (cases_Bool (mark g.seen f))

-- what was gathered of some numbers since marks stood so
pub record IsGathered (ends : List ℕ) (seen : List Bool) (g : Gathered) : Type 0 where
  pub wide : length g.seen ≡ length seen
  pub counted : unmarked g.seen + length g.row ≡ unmarked seen
  pub keeps : (f : ℕ) → mark seen f ≡ true → mark g.seen f ≡ true
  pub queued : (f : ℕ) → mark g.seen f ≡ true → (mark seen f ≡ true) ⊎ Contains g.row f
  pub marked : (f : ℕ) → Contains g.row f → mark g.seen f ≡ true
  pub among : (f : ℕ) → Contains g.row f → Contains ends f
  pub distinct : IsDistinct eqb g.row

-- a number that is not in a list
gather_one : (ends : List ℕ) (seen : List Bool) (g : Gathered) (f : ℕ) → IsGathered ends seen g → f < length seen → Contains ends f → IsGathered ends seen (one_gathered g f)
gather_one ends seen g f h lt has =
    let wide = h.wide in
    let counted = h.counted in
    one_case (IsGathered ends seen) g f (λ is. h) (λ is. record {
      wide = length-set g.seen f true ∙ wide;
      counted = omega (arith, one_marked g.seen f (omega arith) is, length_push g.row f);
      keeps = λ k old. set_marks g.seen f k (h.keeps k old) (omega arith);
      queued = λ k now. ⊎_elim
          (λ (same : k ≡ f). inr (subst (λ n. Contains (g.row ++ f ∷ []) n) (sym same) (Contains-push g.row f)))
          (λ other. ⊎_elim (λ (old : mark seen k ≡ true). inl old) (λ (in_row : Contains g.row k). inr (Contains-append_left g.row (f ∷ []) k in_row)) (h.queued k (set_marked g.seen f k now other)))
          (cases_eq k f);
      marked = λ k in_row. ⊎_elim
          (λ (old : Contains g.row k). set_marks g.seen f k (h.marked k old) (omega arith))
          (λ (same : f ≡ k). subst (λ n. mark (set g.seen f true) n ≡ true) same (get_or-set_same g.seen f true false (omega arith)))
          (Contains-push_cases g.row f k in_row);
      among = λ k in_row. ⊎_elim
          (λ (old : Contains g.row k). h.among k old)
          (λ (same : f ≡ k). subst (λ n. Contains ends n) same has)
          (Contains-push_cases g.row f k in_row);
      distinct = IsDistinct-push nat_eq_equiv g.row f h.distinct (false_from_ne_true (list_any (eqb f) g.row) (λ e. both_ways (mark g.seen f) is (h.marked f (any_has g.row f e))));
    })

one_keeps : (g : Gathered) (f k : ℕ) → f < length g.seen → mark g.seen k ≡ true → mark (one_gathered g f).seen k ≡ true
one_keeps g f k lt old = one_case (λ r. mark r.seen k ≡ true) g f (λ is. old) (λ is. set_marks g.seen f k old lt)

one_marks : (g : Gathered) (f : ℕ) → f < length g.seen → mark (one_gathered g f).seen f ≡ true
one_marks g f lt = one_case (λ r. mark r.seen f ≡ true) g f (λ is. is) (λ is. get_or-set_same g.seen f true false lt)

-- all of a list
gather_rest : (ends rest : List ℕ) (seen : List Bool) (g : Gathered) → IsGathered ends seen g → All (λ f. f < length seen) rest → ((f : ℕ) → Contains rest f → Contains ends f) → IsGathered ends seen (all_gathered g rest)
gather_rest ends [] seen g h low within = h
gather_rest ends (f ∷ rest) seen g h low within =
    gather_rest ends rest seen (one_gathered g f)
    (gather_one ends seen g f h (All-head (λ k. k < length seen) f rest low) (within f (0, omega arith, refl)))
    (All-tail (λ k. k < length seen) f rest low) (λ k has. within k (in_tail f k rest has))

one_wide : (g : Gathered) (f : ℕ) → length (one_gathered g f).seen ≡ length g.seen
one_wide g f = one_case (λ r. length r.seen ≡ length g.seen) g f (λ is. refl) (λ is. length-set g.seen f true)

rest_keeps : (rest : List ℕ) (g : Gathered) (n k : ℕ) → length g.seen ≡ n → All (λ f. f < n) rest → mark g.seen k ≡ true → mark (all_gathered g rest).seen k ≡ true
rest_keeps [] g n k wide low old = old
rest_keeps (f ∷ rest) g n k wide low old =
    let lt : f < n = All-head (λ j. j < n) f rest low in
    rest_keeps rest (one_gathered g f) n k (one_wide g f ∙ wide) (All-tail (λ j. j < n) f rest low) (one_keeps g f k (omega arith) old)

rest_marked : (rest : List ℕ) (g : Gathered) (n k : ℕ) → length g.seen ≡ n → All (λ f. f < n) rest → Contains rest k → mark (all_gathered g rest).seen k ≡ true
rest_marked [] g n k wide low has = absurd (omega (arith, has.1))
rest_marked (f ∷ rest) g n k wide low has =
    let lt : f < n = All-head (λ j. j < n) f rest low in
    let later = All-tail (λ j. j < n) f rest low in
    ⊎_elim
    (λ (here : f ≡ k). rest_keeps rest (one_gathered g f) n k (one_wide g f ∙ wide) later (subst (λ j. mark (one_gathered g f).seen j ≡ true) here (one_marks g f (omega arith))))
    (λ (more : Contains rest k). rest_marked rest (one_gathered g f) n k (one_wide g f ∙ wide) later more)
    (head_or_tail f k rest has)

pub gather_starts : (ends : List ℕ) (seen : List Bool) → IsGathered ends seen (gathered seen [])
unfolding IsDistinct
gather_starts ends seen = record {
  wide = refl;
  counted = omega arith;
  keeps = λ f is. is;
  queued = λ f is. inl is;
  marked = λ f has. absurd (omega (arith, has.1));
  among = λ f has. absurd (omega (arith, has.1));
  distinct = tt;
}

pub all_are_gathered : (ends : List ℕ) (seen : List Bool) → All (λ f. f < length seen) ends → IsGathered ends seen (all_gathered (gathered seen []) ends)
all_are_gathered ends seen low = gather_rest ends ends seen (gathered seen []) (gather_starts ends seen) low (λ f has. has)

pub all_are_marked : (ends : List ℕ) (seen : List Bool) → All (λ f. f < length seen) ends → (k : ℕ) → Contains ends k → mark (all_gathered (gathered seen []) ends).seen k ≡ true
all_are_marked ends seen low k has = rest_marked ends (gathered seen []) (length seen) k refl low has

-- in order of their numbers they rise
pub row_rises : (ends : List ℕ) (seen : List Bool) (row sorted list : List ℕ) → All (λ f. f < length seen) ends → row ≡ (all_gathered (gathered seen []) ends).row →
    IsPermutation row sorted → IsSorted nat_cmp sorted → list ≡ sorted → (i j : ℕ) → i < j → j < length list → get_or list i 0 < get_or list j 0
row_rises ends seen row sorted list low is moved up same =
    let P : List ℕ → Type 0 = λ l. IsDistinct eqb l in
    let distinct = IsDistinct-IsPermutation eqb nat_eq_equiv.symm row sorted moved (subst P (sym is) (all_are_gathered ends seen low).distinct) in
    let increasing = IsStrictlyIncreasing-from_distinct sorted (IsNonDecreasingBy-from_sort (λ (x : ℕ). x) sorted up) distinct in
    let Q : List ℕ → Type 0 = λ l. (i j : ℕ) → i < j → j < length l → get_or l i 0 < get_or l j 0 in
    subst Q (sym same) (λ i j under less. AllPairs-from_increasing sorted increasing i j 0 under less)
