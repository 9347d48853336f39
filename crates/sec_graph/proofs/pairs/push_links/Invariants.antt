use Rattle.std.proofs.Common.{◌≡◌, ◌++◌, ◌-◌, flat_map}
use Rattle.std.specs.List.{range_with_len}
use Rattle.lk_tables.specs.BindingView.{binding_view}
use Rattle.lk_tables.specs.TablesView.{files_of}
use Rattle.sec_graph.specs.Graph as spec
use Rattle.sec_graph.proofs.pairs.push_links.Given as goal

abbrev pub invariant-loop-index : goal.invariant-loop-index
invariant-loop-index l =
    let link = spec.link_at (files_of l.tables) (binding_view l.binding) l.file in
    l.pairs.items ++ flat_map link (range_with_len l.index (l.index-end - l.index)) ≡ l.fn.pairs.items ++ flat_map link (range_with_len 0 l.index-end)
