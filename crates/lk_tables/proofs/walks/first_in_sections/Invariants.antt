use Rattle.std.proofs.Common.{◌≡◌, ◌-◌, flat_map}
use Rattle.std.specs.List.{range_with_len}
use Rattle.lk_tables.specs.TablesView.{files_of}
use Rattle.lk_tables.specs.Walks.{over_section}
use Rattle.lk_tables.proofs.walks.first_in_sections.Given as goal

abbrev pub invariant-loop-section : goal.invariant-loop-section
invariant-loop-section g l =
    flat_map (over_section (files_of l.tables) (g.T.RelocTest.defects l.test) l.file) (range_with_len l.section (l.count - l.section))
    ≡ flat_map (over_section (files_of l.tables) (g.T.RelocTest.defects l.test) l.file) (range_with_len 0 l.count)
