use Rattle.std.proofs.Common.{◌≡◌, ◌++◌, map}
use Rattle.std.specs.Vec.Iter.{into_iter_items}
use Rattle.link_passes.specs.Reading.{object_in, records_in}
use Rattle.link_passes.proofs.NumberedRecords.{view}
use Rattle.link_passes.proofs.records.split_bodies.Given as goal

abbrev pub invariant-loop-body : goal.invariant-loop-body
invariant-loop-body l =
    (goal.iterator-loop-body).can_next l.body-iterator
    × (goal.iterator-loop-body).is_finite l.body-iterator
    × (l.yielded ++ into_iter_items l.body-iterator ≡ l.fn.bodies.items)
    × (l.objects.items ≡ map object_in l.yielded)
    × (map view l.records.items ≡ map records_in l.yielded)
