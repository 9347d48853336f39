use Rattle.std.proofs.Common.{◌≤◌}
use Rattle.lk_tables.specs.TablesView.{files_of}
use Rattle.relax.specs.CutRows.{AreCutRows}
use Rattle.relax.proofs.keeping.part_of.Given as goal

abbrev pub invariant-loop-section : goal.invariant-loop-section
invariant-loop-section l = (l.fn.piece.start ≤ l.section) × AreCutRows (files_of l.scene.tables.now) l.scene.members.now l.calls l.sizes l.fn.piece.start l.section l.rows
