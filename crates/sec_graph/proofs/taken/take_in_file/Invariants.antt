use Rattle.std.proofs.Common.{◌≡◌, ◌-◌, flat_map}
use Rattle.std.specs.List.{range_with_len}
use Rattle.lk_tables.specs.BindingView.{binding_view}
use Rattle.lk_tables.specs.TablesView.{files_of}
use Rattle.lk_tables.specs.Walks.{over_section}
use Rattle.lk_tables.specs.Reach.{with_marked}
use Rattle.sec_graph.specs.Taken.{taken_at}
use Rattle.sec_graph.proofs.taken.take_in_file.Given as goal

abbrev pub invariant-loop-index : goal.invariant-loop-index
invariant-loop-index l =
    with_marked l.taken.items
    (flat_map (over_section (files_of l.tables) (taken_at (files_of l.tables) (binding_view l.binding) l.kept) l.file) (range_with_len l.index (l.index-end - l.index)))
    ≡ with_marked l.fn.taken.items
    (flat_map (over_section (files_of l.tables) (taken_at (files_of l.tables) (binding_view l.binding) l.kept) l.file) (range_with_len 0 (l.index-end - 0)))
