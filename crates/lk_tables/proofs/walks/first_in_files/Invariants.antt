use Rattle.std.proofs.Common.{◌≡◌, ◌-◌, flat_map}
use Rattle.std.specs.List.{range_with_len}
use Rattle.lk_tables.specs.TablesView.{files_of}
use Rattle.lk_tables.specs.Walks.{over_file, over_section}
use Rattle.lk_tables.proofs.walks.first_in_files.Given as goal

abbrev pub invariant-loop-file : goal.invariant-loop-file
invariant-loop-file g l =
    flat_map (over_file (files_of l.tables) (over_section (files_of l.tables) (g.T.RelocTest.defects l.test))) (range_with_len l.file (l.count - l.file))
    ≡ flat_map (over_file (files_of l.tables) (over_section (files_of l.tables) (g.T.RelocTest.defects l.test))) (range_with_len 0 l.count)
