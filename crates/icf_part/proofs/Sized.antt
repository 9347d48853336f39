-- How many items have each label, item after item.
use Rattle.std.proofs.Common.{◌≡◌, ◌≢◌, ℕ, ◌+◌, ◌<◌, ◌≤◌, ◌==◌, List, length, get_or, set, replicate, sym, ap, ◌∙◌, ⊎_elim, arith}
use Rattle.std.proofs.lemmas.Bool.{cases_eq, eq-eqb, ne_eqb}
use Rattle.std.proofs.lemmas.Grind.{get_or_default_zero}
use Rattle.std.proofs.lemmas.List.{get_or-replicate, get_or-set_other, get_or-set_same, length-replicate, length-set}
use Rattle.icf_part.specs.Classes.{AreSizes}
use Rattle.icf_part.specs.Counts.{how_many}
use Rattle.icf_part.proofs.Counting.{more, most, none, one_if}

pub record AreSizesUpto (labels : List ℕ) (n : ℕ) (sizes : List ℕ) : Type 0 where
  pub count : length sizes ≡ length labels
  pub each : (label : ℕ) → label < length labels → get_or sizes label 0 ≡ how_many (λ a. get_or labels a 0 == label) n

pub sizes_first : (labels sizes : List ℕ) → sizes ≡ replicate (length labels) 0 → AreSizesUpto labels 0 sizes
sizes_first labels sizes is = record {
  count = ap length is ∙ length-replicate {A = ℕ} (length labels) 0;
  each = λ label lt. ap (λ l. get_or l label 0) is ∙ get_or-replicate (length labels) label 0 0 lt ∙ sym (none (λ a. get_or labels a 0 == label));
}

-- what is read there
size_read : (labels : List ℕ) (n : ℕ) (sizes : List ℕ) (label value : ℕ) → label < length labels → AreSizesUpto labels n sizes → value ≡ get_or sizes label value → value ≡ get_or sizes label 0
size_read labels n sizes label value lt are is = let count = are.count in is ∙ get_or_default_zero sizes label value (omega (arith, lt, count))

pub sizes_next : (labels : List ℕ) (n : ℕ) (sizes : List ℕ) (value : ℕ) → get_or labels n 0 < length labels → AreSizesUpto labels n sizes → value ≡ get_or sizes (get_or labels n 0) value →
    AreSizesUpto labels (n + 1) (set sizes (get_or labels n 0) (value + 1))
sizes_next labels n sizes value lt are is =
    let own = get_or labels n 0 in
    let next = value + 1 in
    let count = are.count in
    let value_is = size_read labels n sizes own value lt are is in
    record {
      count = length-set sizes own next ∙ are.count;
      each = λ label inside.
          let rest = more (λ a. get_or labels a 0 == label) n in
          let before = are.each label inside in
          ⊎_elim
          (λ (here : label ≡ own).
          let read = ap (λ k. get_or (set sizes own next) k 0) here ∙ get_or-set_same sizes own next 0 (omega (arith, lt, count)) in
          let one = ap one_if (eq-eqb own label (sym here)) in
          let at = ap (λ k. get_or sizes k 0) here in
          omega (arith, rest, before, read, one, at, value_is))
          (λ (other : label ≢ own).
          let read = get_or-set_other sizes own label next 0 other in
          let no_one = ap one_if (ne_eqb own label (λ e. other (sym e))) in
          omega (arith, rest, before, read, no_one))
          (cases_eq label own);
    }

-- each size is small
pub sizes_few : (labels : List ℕ) (n : ℕ) (sizes : List ℕ) (label value : ℕ) → label < length labels → AreSizesUpto labels n sizes → value ≡ get_or sizes label value → value ≤ n
sizes_few labels n sizes label value lt are is =
    omega (arith, are.each label lt, most (λ a. get_or labels a 0 == label) n, size_read labels n sizes label value lt are is)

pub sizes_last : (labels : List ℕ) (n : ℕ) (sizes : List ℕ) → n ≡ length labels → AreSizesUpto labels n sizes → AreSizes labels sizes
sizes_last labels n sizes e are = record {
  count = are.count;
  each = λ label lt. are.each label lt ∙ ap (λ k. how_many (λ a. get_or labels a 0 == label) k) e;
}
