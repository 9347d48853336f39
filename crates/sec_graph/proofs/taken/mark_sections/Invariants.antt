use Rattle.std.proofs.Common.{◌≡◌, drop}
use Rattle.lk_tables.specs.Reach.{with_marked}
use Rattle.sec_graph.proofs.taken.mark_sections.Given as goal

abbrev pub invariant-loop-n : goal.invariant-loop-n
invariant-loop-n l = with_marked l.marks.items (drop l.n l.sections) ≡ with_marked l.fn.marks.items l.sections
