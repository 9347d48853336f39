use Rattle.std.proofs.Common.{◌≡◌, ◌≤◌, ◌+◌, ◌++◌, length, take}
use Rattle.str_merge.specs.Orders.{owns}
use Rattle.str_merge.proofs.orders.list_own.Given as goal

abbrev pub invariant-loop-i : goal.invariant-loop-i
invariant-loop-i l = record {
  len : length l.own.items ≡ length l.fn.own.items;
  most : l.fn.start + l.count ≤ l.i;
  own : owns l.numbers l.fn.start ++ take l.count l.own.items ≡ owns l.numbers l.i;
}
