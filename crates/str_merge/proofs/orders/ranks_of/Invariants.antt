use Rattle.std.proofs.Common.{◌≡◌, length, map}
use Rattle.std.specs.List.{range_with_len}
use Rattle.str_merge.specs.Orders.{IsFirstOf, owns, rank}
use Rattle.str_merge.proofs.orders.ranks_of.Given as goal

abbrev pub invariant-loop-i : goal.invariant-loop-i
invariant-loop-i l = record {
  len : length l.ranks.items ≡ l.i;
  ranks : IsFirstOf l.numbers → l.ranks.items ≡ map (rank l.numbers) (range_with_len 0 l.i);
  count : l.count ≡ length (owns l.numbers l.i);
}
