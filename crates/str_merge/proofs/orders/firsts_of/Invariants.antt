use Rattle.std.proofs.Common.{◌≡◌, ◌≤◌, ◌-◌, length}
use Rattle.str_merge.specs.Orders.{owns}
use Rattle.str_merge.proofs.orders.firsts_of.Given as goal

abbrev pub invariant-loop-done : goal.invariant-loop-done
invariant-loop-done l = record {
  within : l.done ≤ length l.numbers;
  room : length l.own.items ≡ 512;
  firsts : l.firsts.items ≡ owns l.numbers l.done;
}

abbrev pub decreases-loop-done : goal.decreases-loop-done
decreases-loop-done l = length l.numbers - l.done
