use Rattle.std.proofs.Common.{◌≤◌}
use Rattle.lk_tables.specs.TablesView.{files_of}
use Rattle.relax.specs.Unrelaxed.{AreUnrelaxed}
use Rattle.relax.proofs.unrelaxed.part_of.Given as goal

abbrev pub invariant-loop-file : goal.invariant-loop-file
invariant-loop-file l = (l.fn.piece.start ≤ l.file) × AreUnrelaxed (files_of l.tables) l.fn.piece.start l.file l.rows
