use Rattle.std.proofs.Common.{◌≡◌, ◌++◌, ◌-◌, flat_map}
use Rattle.std.specs.List.{range_with_len}
use Rattle.lk_tables.specs.BindingView.{binding_view}
use Rattle.lk_tables.specs.TablesView.{files_of}
use Rattle.sec_graph.specs.NamedSections.{asked_at}
use Rattle.sec_graph.proofs.named_sections.push_asked.Given as goal

abbrev pub invariant-loop-symbol : goal.invariant-loop-symbol
invariant-loop-symbol l =
    let one = asked_at (files_of l.tables) (binding_view l.binding) l.file in
    l.asked.items ++ flat_map one (range_with_len l.symbol (l.symbol-end - l.symbol)) ≡ l.fn.asked.items ++ flat_map one (range_with_len 0 l.symbol-end)
