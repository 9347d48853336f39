use Rattle.std.proofs.Common.{◌≡◌, map}
use Rattle.std.specs.List.{range_with_len}
use Rattle.indexmap.specs.IndexMap.{get}
use Rattle.str_merge.specs.Keys.{HeldKey, eq_keys}
use Rattle.str_merge.proofs.KeyMaps.{noted, key_number}
use Rattle.str_merge.proofs.keys.number_keys.Given as goal

abbrev pub invariant-loop-i : goal.invariant-loop-i
invariant-loop-i l = record {
  known : (q : HeldKey) → get eq_keys l.known q ≡ noted l.keys l.i q;
  numbers : l.numbers.items ≡ map (key_number l.keys) (range_with_len 0 l.i);
}
