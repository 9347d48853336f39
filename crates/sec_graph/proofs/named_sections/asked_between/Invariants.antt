use Rattle.std.proofs.Common.{◌≡◌, ◌++◌, ◌-◌, flat_map}
use Rattle.std.specs.List.{range_with_len}
use Rattle.lk_tables.specs.BindingView.{binding_view}
use Rattle.lk_tables.specs.TablesView.{files_of}
use Rattle.sec_graph.specs.NamedSections.{asked_in}
use Rattle.sec_graph.proofs.named_sections.asked_between.Given as goal

abbrev pub invariant-loop-file : goal.invariant-loop-file
invariant-loop-file l =
    let row = asked_in (files_of l.tables) (binding_view l.binding) in
    l.asked.items ++ flat_map row (range_with_len l.file (l.fn.piece.end - l.file)) ≡ flat_map row (range_with_len l.fn.piece.start (l.fn.piece.end - l.fn.piece.start))
