-- Marks: which sections have one.
use Rattle.std.proofs.Common.{◌≡◌, ◌≢◌, ℕ, ◌<◌, ◌⊎◌, Bool, true, false, List, [], ◌∷◌, ◌++◌, length, get_or, set, replicate, Contains, sym, ap, ◌∙◌, ⊎_elim, inl, inr, arith}
use Rattle.std.proofs.lemmas.List.{length-set, get_or-set_same, get_or-set_other, get_or-replicate}
use Rattle.std.proofs.lemmas.List.Elements.{Contains-append_right, Contains-append_cases}
use Rattle.std.proofs.lemmas.Bool.{cases_eq, both_ways}
use Rattle.lk_base.proofs.Membership.{only_one}
use Rattle.lk_tables.specs.Reach.{with_marked}
use Rattle.lk_tables.proofs.Marking.{marked_append}

-- a loop that marks: some sections more
pub marked_next : (start old new : List Bool) (ss ts all : List ℕ) → old ≡ with_marked start ss → new ≡ with_marked old ts → all ≡ ss ++ ts → new ≡ with_marked start all
marked_next start old new ss ts all before is whole =
    is ∙ ap (λ l. with_marked l ts) before ∙ sym (marked_append start ss ts) ∙ ap (with_marked start) (sym whole)

keeps : (ms : List Bool) (ss : List ℕ) (s : ℕ) → s < length ms → get_or ms s false ≡ true → get_or (with_marked ms ss) s false ≡ true
keeps ms [] s lt is = is
keeps ms (x ∷ xs) s lt is = keeps (set ms x true) xs s (omega (arith, length-set ms x true)) (⊎_elim
    (λ (same : s ≡ x). ap (λ k. get_or (set ms x true) k false) same ∙ get_or-set_same ms x true false (omega arith))
    (λ (other : s ≢ x). get_or-set_other ms x s true false other ∙ is)
    (cases_eq s x))

pub marks_has : (ms : List Bool) (ss : List ℕ) (s : ℕ) → s < length ms → Contains ss s → get_or (with_marked ms ss) s false ≡ true
marks_has ms [] s lt has = let below = has.1 in absurd (omega arith)
marks_has ms (x ∷ xs) s lt has = ⊎_elim
    (λ (first : Contains (x ∷ []) s).
    let same = only_one x s first in
    keeps (set ms x true) xs s (omega (arith, length-set ms x true)) (ap (λ k. get_or (set ms x true) k false) (sym same) ∙ get_or-set_same ms x true false (omega arith)))
    (λ (rest : Contains xs s). marks_has (set ms x true) xs s (omega (arith, length-set ms x true)) rest)
    (Contains-append_cases (x ∷ []) xs s has)

pub marks_only : (ms : List Bool) (ss : List ℕ) (s : ℕ) → get_or (with_marked ms ss) s false ≡ true → Contains ss s ⊎ (get_or ms s false ≡ true)
marks_only ms [] s is = inr is
marks_only ms (x ∷ xs) s is = ⊎_elim
    (λ (rest : Contains xs s). inl (Contains-append_right (x ∷ []) xs s rest))
    (λ (was : get_or (set ms x true) s false ≡ true). ⊎_elim
    (λ (same : s ≡ x). inl (0, omega arith, sym same))
    (λ (other : s ≢ x). inr (sym (get_or-set_other ms x s true false other) ∙ was))
    (cases_eq s x))
    (marks_only (set ms x true) xs s is)

-- of a row that has no mark yet
pub marks_only_these : (n : ℕ) (ss : List ℕ) (s : ℕ) → s < n → get_or (with_marked (replicate n false) ss) s false ≡ true → Contains ss s
marks_only_these n ss s lt is = ⊎_elim
    (λ (has : Contains ss s). has)
    (λ (was : get_or (replicate n false) s false ≡ true). absurd (both_ways (get_or (replicate n false) s false) (get_or-replicate n s false false lt) was))
    (marks_only (replicate n false) ss s is)
