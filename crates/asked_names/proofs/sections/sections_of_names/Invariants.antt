use Rattle.std.proofs.Common.{◌≡◌, ◌++◌, drop, flat_map}
use Rattle.lk_tables.specs.BindingView.{binding_view}
use Rattle.lk_tables.specs.TablesView.{files_of}
use Rattle.asked_names.specs.AskedNames.{lists_of, section_named}
use Rattle.asked_names.proofs.sections.sections_of_names.Given as goal

abbrev pub invariant-loop-name : goal.invariant-loop-name
invariant-loop-name l =
    l.list.items ++ flat_map (section_named (files_of l.tables) (binding_view l.binding)) (lists_of (drop l.name-index l.names))
    ≡ flat_map (section_named (files_of l.tables) (binding_view l.binding)) (lists_of l.names)
