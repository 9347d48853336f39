use Rattle.std.proofs.Common.{◌≡◌}
use Rattle.lk_tables.specs.BindingView.{binding_view}
use Rattle.lk_tables.specs.TablesView.{files_of}
use Rattle.lk_tables.proofs.ByNumber.{section_rows}
use Rattle.link_sections.specs.InputSections as spec
use Rattle.link_sections.proofs.input_sections.all_kept.Given as goal

abbrev pub invariant-loop-file : goal.invariant-loop-file
invariant-loop-file l = l.kept.items ≡ section_rows (files_of l.tables) (spec.may_stay (files_of l.tables) (binding_view l.binding)) l.file
