use Rattle.output_sections.proofs.Settling.{IsSettling}
use Rattle.output_sections.proofs.rows.note_all.Given as goal

abbrev pub invariant-loop-i : goal.invariant-loop-i
invariant-loop-i l = IsSettling l.class l.i l.items l.known l.settled l.rows.items
