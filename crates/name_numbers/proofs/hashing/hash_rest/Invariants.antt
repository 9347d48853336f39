use Rattle.std.proofs.Common.{◌≤◌, length}
use Rattle.name_numbers.proofs.HashSteps.{IsHashing}
use Rattle.std.specs.Prelude.{drop}
use Rattle.intern_race.specs.Hash.{hash_from}
use Rattle.name_numbers.proofs.hashing.hash_rest.Given as goal

abbrev pub invariant-loop-k : goal.invariant-loop-k
invariant-loop-k l = record {
  from : l.fn.from ≤ l.k;
  is : IsHashing (hash_from l.fn.start (drop l.fn.from l.text)) l.text l.k l.hash;
}
