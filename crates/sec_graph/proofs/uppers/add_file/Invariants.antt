use Rattle.std.proofs.Common.{◌++◌, List, map}
use Rattle.std.specs.List.{range_with_len}
use Rattle.lk_tables.specs.declared.objects.Reloc.{Reloc}
use Rattle.lk_tables.specs.TablesView.{files_of}
use Rattle.lk_tables.specs.Uppers.{AreListed, uppers_at}
use Rattle.sec_graph.proofs.uppers.add_file.Given as goal

abbrev pub invariant-loop-section : goal.invariant-loop-section
invariant-loop-section l = (lists : List (List Reloc)) → AreListed lists l.fn.uppers →
    AreListed (lists ++ map (uppers_at (files_of l.tables) l.file) (range_with_len 0 l.section)) l.uppers
