use Rattle.std.proofs.Common.{◌≡◌, ◌++◌, map, All}
use Rattle.std.specs.Prelude.{Some}
use Rattle.std.specs.Vec.Iter.{into_iter_items}
use Rattle.intern_race.specs.Interning.{SitsAt}
use Rattle.name_numbers.specs.Placed.{KeepsPlaced, slots_of}
use Rattle.name_numbers.proofs.racing.join_all.Given as goal

abbrev pub invariant-loop-one : goal.invariant-loop-one
invariant-loop-one l =
    goal.iterator-loop-one.can_next l.one-iterator
    × goal.iterator-loop-one.is_finite l.one-iterator
    × (l.yielded ++ into_iter_items l.one-iterator ≡ l.fn.done.items)
    × SitsAt l.table l.seat
    × All (λ y. KeepsPlaced y.seat.placed l.seat.placed) l.yielded
    × (map slots_of l.yielded ≡ map (λ list. Some list) l.lists.items)
