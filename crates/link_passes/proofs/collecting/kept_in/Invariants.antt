use Rattle.std.proofs.Common.{◌≡◌, ◌-◌, ◌++◌}
use Rattle.std.specs.Prelude.{flat_map}
use Rattle.std.specs.List.{range_with_len}
use Rattle.lk_tables.specs.BindingView.{binding_view}
use Rattle.lk_tables.specs.TablesView.{files_of}
use Rattle.lk_tables.proofs.ByNumber.{section_row}
use Rattle.link_sections.specs.InputSections as spec
use Rattle.link_passes.proofs.collecting.kept_in.Given as goal

abbrev pub invariant-loop-file : goal.invariant-loop-file
invariant-loop-file l =
    l.kept.items ++ flat_map (section_row (files_of l.tables) (spec.may_stay (files_of l.tables) (binding_view l.binding))) (range_with_len l.file (l.fn.piece.end - l.file))
    ≡ flat_map (section_row (files_of l.tables) (spec.may_stay (files_of l.tables) (binding_view l.binding))) (range_with_len l.fn.piece.start (l.fn.piece.end - l.fn.piece.start))
