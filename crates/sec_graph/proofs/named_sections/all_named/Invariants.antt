use Rattle.std.proofs.Common.{◌≡◌, flat_map}
use Rattle.std.specs.List.{range_with_len}
use Rattle.lk_tables.specs.BindingView.{binding_view}
use Rattle.lk_tables.specs.TablesView.{files_of}
use Rattle.sec_graph.specs.NamedSections.{named_at}
use Rattle.sec_graph.proofs.named_sections.all_named.Given as goal

abbrev pub invariant-loop-section : goal.invariant-loop-section
invariant-loop-section l = l.pairs.items ≡ flat_map (named_at (files_of l.tables) (binding_view l.binding) l.names) (range_with_len 0 l.section)
