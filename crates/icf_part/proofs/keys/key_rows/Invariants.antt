use Rattle.std.proofs.Common.{◌≤◌}
use Rattle.icf_part.specs.Chosen.{views_at}
use Rattle.icf_part.specs.Signatures.{AreRowsFrom, key_at}
use Rattle.icf_part.proofs.keys.key_rows.Given as goal

abbrev pub invariant-loop-a : goal.invariant-loop-a
invariant-loop-a l = (l.fn.piece.start ≤ l.a) × AreRowsFrom (key_at (views_at l.items l.chosen) l.bytes l.outputs) l.fn.piece.start l.a l.rows
