use Rattle.std.proofs.Common.{◌≡◌, ◌++◌, map, length}
use Rattle.std.specs.List.{range_with_len}
use Rattle.std.specs.Vec.Iter.{into_iter_items}
use Rattle.lk_tables.specs.TablesView.{heads_of}
use Rattle.link_passes.specs.Contents.{sources_of}
use Rattle.link_passes.specs.Sources.{headed}
use Rattle.link_passes.proofs.heads.gather.Given as goal

abbrev pub invariant-loop-head : goal.invariant-loop-head
invariant-loop-head l =
    (goal.iterator-loop-head).can_next l.head-iterator
    × (goal.iterator-loop-head).is_finite l.head-iterator
    × (l.yielded ++ into_iter_items l.head-iterator ≡ l.fn.list.items)
    × (l.at ≡ length l.yielded)
    × (heads_of l.heads ≡ map (headed (sources_of l.sources)) (range_with_len 0 l.at))
