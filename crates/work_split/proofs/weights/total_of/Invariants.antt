use Rattle.std.proofs.Common.{◌≡◌, ◌≤◌, ◌*◌, sum, take}
use Rattle.work_split.proofs.weights.total_of.Given as goal

abbrev pub invariant-loop-index : goal.invariant-loop-index
invariant-loop-index l = record {
  so_far : l.total ≡ sum (take l.index l.weights);
  fits : l.total ≤ l.index * 18446744073709551615;
}
