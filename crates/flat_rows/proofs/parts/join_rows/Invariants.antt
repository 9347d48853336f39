use Rattle.std.proofs.Common.{◌≡◌, ◌++◌, flat_map}
use Rattle.std.specs.Vec.Iter.{into_iter_items}
use Rattle.flat_rows.proofs.parts.join_rows.Given as goal

abbrev pub invariant-loop-part : goal.invariant-loop-part
invariant-loop-part g l =
    (goal.iterator-loop-part g).can_next l.part-iterator
    × (goal.iterator-loop-part g).is_finite l.part-iterator
    × (l.yielded ++ into_iter_items l.part-iterator ≡ l.fn.parts.items)
    × (l.rows ≡ flat_map (λ part. part) l.yielded)
