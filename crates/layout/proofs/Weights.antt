-- How much room rows take at most.
use Rattle.std.proofs.Common.{◌≡◌, ℕ, ◌+◌, ◌*◌, List, take, drop}
use Rattle.std.proofs.lemmas.List.Sums.{sum_by-take-drop}
use Rattle.lk_base.specs.declared.abi.TheConstants.{ALIGN_MAX}
use Rattle.output_sections.specs.declared.rows.Row.{Row}
use Rattle.layout.specs.Walk.{weight}

pub weight_split : (rows front back : List Row) (n : ℕ) → front ≡ take n rows → back ≡ drop n rows → weight front + weight back ≡ weight rows
weight_split rows front back n front_is back_is = rw (front_is, back_is) (sum_by-take-drop (λ (row : Row). 3 * row.size + 2 * ALIGN_MAX) rows n)
