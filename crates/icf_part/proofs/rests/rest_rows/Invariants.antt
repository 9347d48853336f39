use Rattle.std.proofs.Common.{◌≤◌}
use Rattle.icf_part.specs.Chosen.{views_at}
use Rattle.icf_part.specs.Signatures.{AreRowsFrom, rest_at}
use Rattle.icf_part.proofs.rests.rest_rows.Given as goal

abbrev pub invariant-loop-a : goal.invariant-loop-a
invariant-loop-a l = (l.fn.piece.start ≤ l.a) × AreRowsFrom (rest_at (views_at l.items l.chosen) l.keys l.ends) l.fn.piece.start l.a l.rows
