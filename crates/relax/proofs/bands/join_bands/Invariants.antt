use Rattle.std.proofs.Common.{◌≡◌, ◌++◌, flat_map}
use Rattle.std.specs.Vec.Iter.{into_iter_items}
use Rattle.relax.specs.declared.bands.Banded.{Banded}
use Rattle.relax.proofs.bands.join_bands.Given as goal

abbrev pub invariant-loop-part : goal.invariant-loop-part
invariant-loop-part l =
    goal.iterator-loop-part.can_next l.part-iterator
    × goal.iterator-loop-part.is_finite l.part-iterator
    × (l.yielded ++ into_iter_items l.part-iterator ≡ l.fn.parts.items)
    × (l.whole.sizes.items ≡ flat_map (λ (x : Banded). x.sizes.items) l.yielded)
    × (l.whole.opens.items ≡ flat_map (λ (x : Banded). x.opens.items) l.yielded)
