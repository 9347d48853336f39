use Rattle.std.proofs.Common.{◌≡◌, ◌-◌, flat_map, false, replicate}
use Rattle.std.specs.List.{range_with_len}
use Rattle.lk_tables.specs.BindingView.{binding_view}
use Rattle.lk_tables.specs.Files.{section_total}
use Rattle.lk_tables.specs.TablesView.{files_of}
use Rattle.lk_tables.specs.Walks.{over_file, over_section}
use Rattle.lk_tables.specs.Reach.{with_marked}
use Rattle.sec_graph.specs.Taken.{taken_at, taken_sections}
use Rattle.sec_graph.proofs.taken.address_taken.Given as goal

abbrev pub invariant-loop-file : goal.invariant-loop-file
invariant-loop-file l =
    with_marked l.taken.items
    (flat_map (over_file (files_of l.tables) (over_section (files_of l.tables) (taken_at (files_of l.tables) (binding_view l.binding) l.kept))) (range_with_len l.file (l.file-end - l.file)))
    ≡ with_marked (replicate (section_total (files_of l.tables)) false) (taken_sections (files_of l.tables) (binding_view l.binding) l.kept)
