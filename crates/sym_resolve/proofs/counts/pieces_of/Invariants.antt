use Rattle.std.proofs.Common.{◌≡◌, length}
use Rattle.sym_resolve.proofs.counts.pieces_of.Given as goal

abbrev pub invariant-loop-f : goal.invariant-loop-f
invariant-loop-f l = length l.counts.items ≡ l.f
