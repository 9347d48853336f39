use Rattle.std.proofs.Common.{◌≡◌, ◌+◌, ◌==◌, drop}
use Rattle.std.specs.List.{prefix_len}
use Rattle.layout.proofs.walk.same_len.Given as goal

abbrev pub invariant-loop-i : goal.invariant-loop-i
invariant-loop-i l = l.i + prefix_len (λ row. row.group == l.group) (drop l.i l.rows) ≡ prefix_len (λ row. row.group == l.group) l.rows
