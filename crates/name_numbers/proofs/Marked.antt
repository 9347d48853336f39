-- A loop that writes to the place of each thing that of the thing whose number it has. Places rise, so none is written twice.
use Rattle.std.proofs.Common.{◌≡◌, ℕ, ◌+◌, ◌<◌, ◌≤◌, List, length, get_or, set, refl, sym, ap, ◌∙◌, ⊎_elim, arith}
use Rattle.std.proofs.lemmas.Bool.{cases_lt}
use Rattle.std.proofs.lemmas.List.{get_or-set_other, get_or-set_same, length-set}
use Rattle.name_numbers.specs.Marks.{AreMarked}

pub marked_none : (places numbers old : List ℕ) → AreMarked places numbers 0 old old
marked_none places numbers old = record { wide = refl; each = λ k lt. absurd (omega arith); others = λ s other. refl }

pub marked_next : (places numbers : List ℕ) (n : ℕ) (old new : List ℕ) → n < length places → ((k : ℕ) → k < length places → get_or places k 0 < length old) →
    ((j k : ℕ) → j < k → k < length places → get_or places j 0 < get_or places k 0) → AreMarked places numbers n old new →
    AreMarked places numbers (n + 1) old (set new (get_or places n 0) (get_or places (get_or numbers n 0) 0))
marked_next places numbers n old new lt within rise m =
    let here = get_or places n 0 in
    let first = get_or places (get_or numbers n 0) 0 in
    let wide = m.wide in
    record {
      wide = length-set new here first ∙ m.wide;
      each = λ k less. ⊎_elim
          (λ (before : k < n). let apart = rise k n before lt in get_or-set_other new here (get_or places k 0) first 0 (λ e. absurd (omega (arith, apart, e))) ∙ m.each k before)
          (λ (last : n ≤ k).
          let same : k ≡ n = omega (arith, less, last) in
          ap (λ j. get_or (set new here first) (get_or places j 0) 0) same ∙ get_or-set_same new here first 0 (omega (arith, within n lt, wide))
          ∙ ap (λ j. get_or places (get_or numbers j 0) 0) (sym same))
          (cases_lt k n);
      others = λ s other. get_or-set_other new here s first 0 (λ e. other n (omega arith) (sym e)) ∙ m.others s (λ k less. other k (omega (arith, less)));
    }
