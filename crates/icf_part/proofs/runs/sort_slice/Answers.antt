use Rattle.std.proofs.Common.{ℕ}
use Rattle.std.proofs.lemmas.List.Sorted.{Contains-permutation, IsNonDecreasingBy-from_sort, IsPermutation-sym}
use Rattle.icf_part.proofs.runs.sort_slice.Goals as goal

pub returns-clause-rising : goal.returns-clause-rising
returns-clause-rising c = record { rises = λ i j le lt. IsNonDecreasingBy-from_sort (λ (x : ℕ). x) _ c.sort_unstable.ensures.sorted i j 0 le lt }

pub returns-clause-all : goal.returns-clause-all
returns-clause-all c = λ w has. Contains-permutation _ _ w c.sort_unstable.ensures.permutation has

pub returns-clause-only : goal.returns-clause-only
returns-clause-only c = λ w has. Contains-permutation _ _ w (IsPermutation-sym _ _ c.sort_unstable.ensures.permutation) has
