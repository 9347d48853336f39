use Rattle.std.proofs.Common.{◌≡◌, drop}
use Rattle.intern_race.specs.Hash.{hash_from}
use Rattle.intern_race.proofs.hash.hash_of.Given as goal

abbrev pub invariant-loop-byte : goal.invariant-loop-byte
invariant-loop-byte l = hash_from l.hash (drop l.byte-index l.text) ≡ hash_from 0xcbf29ce484222325 l.text
