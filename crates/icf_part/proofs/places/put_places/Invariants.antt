use Rattle.std.proofs.Common.{◌≡◌, [], ◌++◌, flat_map, take}
use Rattle.icf_part.specs.Signatures.{reloc_places}
use Rattle.icf_part.proofs.places.put_places.Given as goal

abbrev pub invariant-loop-k : goal.invariant-loop-k
invariant-loop-k l = l.list.items ≡ [] ++ flat_map (reloc_places l.sections) (take l.k l.item.relocs.items)
