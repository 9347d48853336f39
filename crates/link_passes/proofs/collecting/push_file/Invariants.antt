use Rattle.std.proofs.Common.{◌≡◌, ◌++◌, map}
use Rattle.std.specs.List.{range_with_len}
use Rattle.lk_tables.specs.BindingView.{binding_view}
use Rattle.lk_tables.specs.TablesView.{files_of}
use Rattle.link_sections.specs.InputSections as spec
use Rattle.link_passes.proofs.collecting.push_file.Given as goal

abbrev pub invariant-loop-index : goal.invariant-loop-index
invariant-loop-index l =
    l.kept.items ≡ l.fn.kept.items ++ map (spec.may_stay (files_of l.tables) (binding_view l.binding) l.file) (range_with_len 0 l.index)
