use Rattle.intern_race.specs.Hash.{hash_from}
use Rattle.name_numbers.proofs.HashSteps.{IsHashing}
use Rattle.name_numbers.proofs.hashing.hash_four.Given as goal

abbrev pub invariant-loop-k : goal.invariant-loop-k
invariant-loop-k l = record {
  a : IsHashing (hash_from 0xcbf29ce484222325 l.a) l.a l.k l.of_a;
  b : IsHashing (hash_from 0xcbf29ce484222325 l.b) l.b l.k l.of_b;
  c : IsHashing (hash_from 0xcbf29ce484222325 l.c) l.c l.k l.of_c;
  d : IsHashing (hash_from 0xcbf29ce484222325 l.d) l.d l.k l.of_d;
}
