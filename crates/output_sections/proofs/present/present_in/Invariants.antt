use Rattle.output_sections.proofs.Presence.{AreMet}
use Rattle.output_sections.proofs.present.present_in.Given as goal

abbrev pub invariant-loop-i : goal.invariant-loop-i
invariant-loop-i l = AreMet l.items l.i l.present
