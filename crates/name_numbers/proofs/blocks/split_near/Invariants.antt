use Rattle.std.proofs.Common.{◌≡◌, ◌≤◌, length}
use Rattle.name_numbers.proofs.blocks.split_near.Given as goal

abbrev pub invariant-loop-k : goal.invariant-loop-k
invariant-loop-k l = record {
  count : l.count ≤ l.k;
  near : length l.near ≡ length l.initial.near;
  rest : length l.rest ≡ length l.initial.rest;
}
