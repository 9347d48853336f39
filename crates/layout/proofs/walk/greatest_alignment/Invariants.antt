use Rattle.std.proofs.Common.{◌≡◌, ◌≤◌, drop, max, List, ℕ}
use Rattle.std.specs.List.{fold}
use Rattle.lk_base.specs.declared.abi.TheConstants.{ALIGN_MAX}
use Rattle.layout.specs.Walk.{greatest}
use Rattle.output_sections.specs.declared.rows.Row.{Row}
use Rattle.layout.proofs.walk.greatest_alignment.Given as goal

pub record Found (found i : ℕ) (rows : List Row) : Type 0 where
  pub some : 1 ≤ found
  pub bound : found ≤ ALIGN_MAX
  pub value : fold (λ found row. max found row.align) found (drop i rows) ≡ greatest rows

abbrev pub invariant-loop-row : goal.invariant-loop-row
invariant-loop-row l = Found l.found l.row-index l.rows
