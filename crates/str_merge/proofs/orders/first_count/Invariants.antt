use Rattle.std.proofs.Common.{◌≡◌, length}
use Rattle.str_merge.specs.Orders.{owns}
use Rattle.str_merge.proofs.orders.first_count.Given as goal

abbrev pub invariant-loop-i : goal.invariant-loop-i
invariant-loop-i l = l.count ≡ length (owns l.numbers l.i)
