use Rattle.output_sections.proofs.RowSteps.{IsReading}
use Rattle.output_sections.proofs.rows.push_all.Given as goal

abbrev pub invariant-loop-i : goal.invariant-loop-i
invariant-loop-i l = IsReading l.class l.i l.items l.heads l.last l.rows.items
