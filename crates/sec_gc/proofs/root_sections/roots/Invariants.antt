use Rattle.std.proofs.Common.{◌≡◌, ◌-◌, ◌++◌}
use Rattle.std.specs.Prelude.{flat_map}
use Rattle.std.specs.List.{range_with_len}
use Rattle.lk_tables.specs.BindingView.{binding_view}
use Rattle.lk_tables.specs.TablesView.{files_of}
use Rattle.asked_names.specs.AskedNames.{lists_of}
use Rattle.sec_gc.specs.Roots as spec
use Rattle.sec_gc.proofs.root_sections.roots.Given as goal

abbrev pub invariant-loop-file : goal.invariant-loop-file
invariant-loop-file l =
    l.roots.items ++ flat_map (spec.roots_in (files_of l.tables) (binding_view l.binding)) (range_with_len l.file (l.file-end - l.file))
    ≡ spec.roots (files_of l.tables) (binding_view l.binding) (lists_of l.undefined)
