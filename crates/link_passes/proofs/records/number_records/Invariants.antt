use Rattle.std.proofs.Common.{◌≡◌, ◌++◌, flat_map, length}
use Rattle.std.specs.List.{range_with_len}
use Rattle.std.specs.Vec.Iter.{into_iter_items}
use Rattle.lk_tables.specs.Frames.{list_at, list_views}
use Rattle.lk_tables.specs.TablesView.{files_of}
use Rattle.lk_tables.specs.Walks.{over_file}
use Rattle.link_passes.proofs.records.number_records.Given as goal

abbrev pub invariant-loop-list : goal.invariant-loop-list
invariant-loop-list l =
    (goal.iterator-loop-list).can_next l.list-iterator
    × (goal.iterator-loop-list).is_finite l.list-iterator
    × (l.yielded ++ into_iter_items l.list-iterator ≡ l.fn.records.items)
    × (l.file ≡ length l.yielded)
    × (list_views l.lists.items ≡ flat_map (over_file (files_of l.tables) (list_at (files_of l.tables))) (range_with_len 0 l.file))
