use Rattle.std.proofs.Common.{◌≡◌, ◌-◌, ◌++◌}
use Rattle.std.specs.Prelude.{flat_map}
use Rattle.std.specs.List.{range_with_len}
use Rattle.lk_tables.specs.BindingView.{binding_view}
use Rattle.lk_tables.specs.TablesView.{files_of}
use Rattle.sec_gc.specs.Roots as spec
use Rattle.sec_gc.proofs.root_sections.push_roots.Given as goal

abbrev pub invariant-loop-index : goal.invariant-loop-index
invariant-loop-index l =
    l.roots.items ++ flat_map (spec.root_at (files_of l.tables) (binding_view l.binding) l.file) (range_with_len l.index (l.index-end - l.index))
    ≡ l.fn.roots.items ++ spec.roots_in (files_of l.tables) (binding_view l.binding) l.file
