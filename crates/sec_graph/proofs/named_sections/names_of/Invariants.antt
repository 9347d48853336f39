use Rattle.std.proofs.Common.{All, take}
use Rattle.lk_tables.specs.BindingView.{binding_view}
use Rattle.lk_tables.specs.TablesView.{files_of}
use Rattle.sec_graph.specs.NamedSections.{AreNoted, IsKnown}
use Rattle.sec_graph.proofs.named_sections.names_of.Given as goal

abbrev pub invariant-loop-i : goal.invariant-loop-i
invariant-loop-i l =
    AreNoted (files_of l.tables) (binding_view l.binding) l.names × All (IsKnown (files_of l.tables) (binding_view l.binding) l.names) (take l.i l.asked)
