use Rattle.std.proofs.Common.{◌≡◌}
use Rattle.work_split.specs.Shares.{EachFrom}
use Rattle.work_split.proofs.tests.numbers_of.Given as goal

abbrev pub invariant-loop-number : goal.invariant-loop-number
invariant-loop-number l = EachFrom (λ n x. x ≡ n) l.fn.piece.start l.number l.numbers.items
