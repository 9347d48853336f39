use Rattle.std.proofs.Common.{◌≡◌, ◌++◌, map}
use Rattle.std.specs.Vec.Iter.{into_iter_items}
use Rattle.lk_tables.specs.Frames.{list_views}
use Rattle.lk_tables.specs.TablesView.{files_of}
use Rattle.link_passes.specs.Frames.{numbered}
use Rattle.link_passes.proofs.records.push_numbered.Given as goal

abbrev pub invariant-loop-list : goal.invariant-loop-list
invariant-loop-list l =
    (goal.iterator-loop-list).can_next l.list-iterator
    × (goal.iterator-loop-list).is_finite l.list-iterator
    × (l.yielded ++ into_iter_items l.list-iterator ≡ l.fn.records.items)
    × (list_views l.lists.items ≡ list_views l.initial.lists.items ++ map (numbered (files_of l.tables) l.file) (list_views l.yielded))
