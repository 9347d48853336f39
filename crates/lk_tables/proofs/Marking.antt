-- Marks that are set one after the other.
use Rattle.std.proofs.Common.{◌≡◌, ◌≢◌, ℕ, zero, suc, ◌+◌, ◌<◌, ◌≤◌, Bool, true, false, List, [], ◌∷◌, ◌++◌, length, set, replicate, refl, sym, ◌∙◌, subst, ⊎_elim, arith}
use Rattle.std.proofs.lemmas.Bool.{both_ways, cases_eq, cases_lt}
use Rattle.std.proofs.lemmas.List.{get_or-set_other, get_or-set_same, get_or_past, length-set}
use Rattle.lk_tables.specs.Reach.{mark, unmarked, with_marked}

-- one more mark is one less without
pub one_marked : (seen : List Bool) (f : ℕ) → f < length seen → mark seen f ≡ false → unmarked (set seen f true) + 1 ≡ unmarked seen
one_marked [] f lt is = absurd (omega arith)
one_marked (false ∷ seen) zero lt is = let e : unmarked (set (false ∷ seen) 0 true) ≡ unmarked seen = refl in let d : unmarked (false ∷ seen) ≡ 1 + unmarked seen = refl in omega arith
one_marked (true ∷ seen) zero lt is = absurd cc
one_marked (false ∷ seen) (suc f) lt is =
    let rest = one_marked seen f (omega arith) is in
    let e : unmarked (set (false ∷ seen) (suc f) true) ≡ 1 + unmarked (set seen f true) = refl in
    let d : unmarked (false ∷ seen) ≡ 1 + unmarked seen = refl in omega arith
one_marked (true ∷ seen) (suc f) lt is = one_marked seen f (omega arith) is

-- without a mark all are counted
pub none_marked : (n : ℕ) → unmarked (replicate n false) ≡ n
none_marked zero = refl
none_marked (suc n) = let rest = none_marked n in let e : unmarked (replicate (suc n) false) ≡ 1 + unmarked (replicate n false) = refl in omega arith

-- what is marked is no place past the end
pub mark_inside : (seen : List Bool) (f : ℕ) → mark seen f ≡ true → f < length seen
mark_inside seen f is = ⊎_elim
    (λ (lt : f < length seen). lt)
    (λ (le : length seen ≤ f). absurd (both_ways (mark seen f) (get_or_past seen f false le) is))
    (cases_lt f (length seen))

-- one more mark leaves the others, and adds no other
pub set_marks : (seen : List Bool) (f g : ℕ) → mark seen g ≡ true → f < length seen → mark (set seen f true) g ≡ true
set_marks seen f g is lt = ⊎_elim
    (λ (same : f ≡ g). subst (λ k. mark (set seen f true) k ≡ true) same (get_or-set_same seen f true false lt))
    (λ other. get_or-set_other seen f g true false (λ e. other (sym e)) ∙ is)
    (cases_eq f g)

pub set_marked : (seen : List Bool) (f g : ℕ) → mark (set seen f true) g ≡ true → (g ≢ f) → mark seen g ≡ true
set_marked seen f g is other = sym (get_or-set_other seen f g true false other) ∙ is

-- the places of a list one after the other
pub marked_append : (marks : List Bool) (ns ms : List ℕ) → with_marked marks (ns ++ ms) ≡ with_marked (with_marked marks ns) ms
marked_append marks [] ms = refl
marked_append marks (n ∷ ns) ms = marked_append (set marks n true) ns ms

pub length_marked : (marks : List Bool) (ns : List ℕ) → length (with_marked marks ns) ≡ length marks
length_marked marks [] = refl
length_marked marks (n ∷ ns) = length_marked (set marks n true) ns ∙ length-set marks n true
